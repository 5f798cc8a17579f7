-- What a failure of the device is called here.
use Rattle.xdb_device.specs.declared.fault.DevNo.{DevNo}
use Rattle.xdb_device.specs.declared.fault.DevNo.TheVariants as dev
use Rattle.xdb_table_r.specs.declared.error.TableNo.{TableNo}
use Rattle.xdb_table_r.specs.declared.error.TableNo.TheVariants.{ReadFault, Memory}

abbrev pub no_of : DevNo → TableNo
no_of dev.Failed = ReadFault
no_of dev.Memory = Memory
