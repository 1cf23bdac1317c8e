-- What is told where a text was not read to its end. Only private contracts cite it.
use Rattle.acc_driver.specs.declared.fault.DriverFault.{DriverFault}
use Rattle.acc_driver.specs.declared.fault.DriverFault.TheVariants as fault
use Rattle.acc_driver.specs.declared.input.InputFault.{InputFault}
use Rattle.acc_driver.specs.declared.input.InputFault.TheVariants as input

abbrev pub reader_fault : InputFault → DriverFault
reader_fault input.Read = fault.Input
reader_fault input.Memory = fault.Memory
