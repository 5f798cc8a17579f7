use Rattle.xdb_steps.proofs.SetSteps.{unused, ticket-keeps, hold-keeps, release-keeps, install-keeps, numbers-keep}
use Rattle.xdb_steps.proofs.counts.sets_go_on.Goals as goal

pub returns : goal.returns
returns g c = record {
  unused = λ s f t h of empty has e. unused s f of t empty h has e;
  ticket = λ s f slots next t of fresh told. ticket-keeps s f of slots next t fresh told;
  hold = λ s f slots t holder holds of empty told same. hold-keeps s f of slots t holder holds empty told same;
  release = λ s new f id holds of current known taken slot version same. release-keeps s f of new id holds current known taken slot version same;
  install = λ s new f e contents known of is current slots taken version alike. install-keeps s f of new e contents known is current slots taken version alike;
  numbers = λ s new f known taken of current older slots knows takes. numbers-keep s f of new known taken current older slots knows takes;
}
