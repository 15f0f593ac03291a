-- The faults of a server that sends messages, as those of its loop.
use Rattle.hm_lsp_output.specs.declared.sending.SendFault.{SendFault}
use Rattle.hm_lsp_output.specs.declared.sending.SendFault.TheVariants.{Memory as NoMemory, Write as NoWrite}
use Rattle.hm_lsp_serving.specs.declared.faults.ServeFault.{ServeFault}
use Rattle.hm_lsp_serving.specs.declared.faults.ServeFault.TheVariants.{Memory, Write}

abbrev pub fault_of : SendFault → ServeFault
fault_of NoMemory = Memory
fault_of NoWrite = Write
