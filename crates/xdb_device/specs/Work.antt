-- What a failed call is called in a piece of work.
use Rattle.xdb_device.specs.declared.fault.DevNo.{DevNo}
use Rattle.xdb_device.specs.declared.fault.DevNo.TheVariants as dev
use Rattle.xdb_device.specs.declared.fault.WorkCause.{WorkCause}
use Rattle.xdb_device.specs.declared.fault.WorkCause.TheVariants.{Fault, Memory}

abbrev pub cause_of : DevNo → WorkCause
cause_of dev.Failed = Fault
cause_of dev.Memory = Memory
