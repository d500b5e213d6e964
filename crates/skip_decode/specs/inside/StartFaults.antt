-- The fault of a start for a fault of its dictionary. Defined by this project.
use Rattle.acl_outside.specs.declared.read_fault.ReadFault.TheVariants as read
use Rattle.tag_dictionary.specs.declared.fault.DictFault.{DictFault}
use Rattle.tag_dictionary.specs.declared.fault.DictFault.TheVariants as index
use Rattle.skip_decode.specs.declared.start_fault.StartFault.{StartFault}
use Rattle.skip_decode.specs.declared.start_fault.StartFault.TheVariants as start

-- Bytes that are the section of no dictionary are refused with BadIndex, and NoMemory stays NoMemory.
abbrev pub fault_of_index : DictFault → StartFault
fault_of_index index.BadIndex = start.Read read.BadIndex
fault_of_index index.NoMemory = start.NoMemory
