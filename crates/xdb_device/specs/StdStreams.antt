-- What is seen of standard input and output: the count of failures, and the reader or writer below.
use Rattle.std.specs.Prelude.{ℕ}
use Rattle.xdb_device.specs.declared.std_streams.StdSource.{StdSource}
use Rattle.xdb_device.specs.declared.std_streams.StdSink.{StdSink}

module _ {T : Type 0} where
  abbrev pub source_faults : StdSource T → ℕ
  source_faults source = source.faults

  abbrev pub input_of : StdSource T → T
  input_of source = source.input

  abbrev pub sink_faults : StdSink T → ℕ
  sink_faults sink = sink.faults

  abbrev pub output_of : StdSink T → T
  output_of sink = sink.output
