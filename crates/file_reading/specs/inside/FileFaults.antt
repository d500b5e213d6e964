-- The fault of a file for a fault of its decoding. Defined by this project.
use Rattle.acl_outside.specs.declared.read_fault.ReadFault.TheVariants as read
use Rattle.tag_dictionary.specs.declared.fault.DictFault.{DictFault}
use Rattle.tag_dictionary.specs.declared.fault.DictFault.TheVariants as index
use Rattle.file_reading.specs.declared.fault.FileFault.{FileFault}
use Rattle.file_reading.specs.declared.fault.FileFault.TheVariants as file

-- Where the stream encodes no document, the file is refused with BadIndex, and NoMemory stays NoMemory.
abbrev pub fault_of_index : DictFault → FileFault
fault_of_index index.BadIndex = file.Refused read.BadIndex
fault_of_index index.NoMemory = file.NoMemory
