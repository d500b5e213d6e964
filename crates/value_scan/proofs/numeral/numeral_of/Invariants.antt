use Rattle.std.proofs.Common.{◌≡◌, drop}
use Rattle.value_scan.specs.Numerals.{numeral_after_all}
use Rattle.value_scan.specs.declared.numeral.Numeral.TheVariants.{Start}
use Rattle.value_scan.proofs.numeral.numeral_of.Given as goal

abbrev pub invariant-loop-byte : goal.invariant-loop-byte
invariant-loop-byte l = numeral_after_all l.numeral (drop l.byte-index l.bytes) ≡ numeral_after_all Start l.bytes
