-- How the faults of the encoder's steps become faults of the encoder. Defined by this project.
use Rattle.tag_dictionary.specs.declared.fault.TagFault.{TagFault}
use Rattle.tag_dictionary.specs.declared.fault.TagFault.TheVariants as tags
use Rattle.skip_encode.specs.declared.measure_fault.MeasureFault.{MeasureFault}
use Rattle.skip_encode.specs.declared.measure_fault.MeasureFault.TheVariants as measure
use Rattle.skip_encode.specs.declared.fault.EncodeFault.{EncodeFault}
use Rattle.skip_encode.specs.declared.fault.EncodeFault.TheVariants as encode

-- The fault of making a dictionary, as a fault of the encoder: TooManyTags and NoMemory stay the same.
abbrev pub fault_of_tags : TagFault → EncodeFault
fault_of_tags tags.TooManyTags = encode.TooManyTags
fault_of_tags tags.NoMemory = encode.NoMemory

-- The fault of measuring, as a fault of the encoder: TooLarge and NoMemory stay the same.
abbrev pub fault_of_measures : MeasureFault → EncodeFault
fault_of_measures measure.TooLarge = encode.TooLarge
fault_of_measures measure.NoMemory = encode.NoMemory
