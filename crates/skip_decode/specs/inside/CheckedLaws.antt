-- The number of an opener's fragments, and of the bytes of a stream that it may be reading.
use Rattle.std.proofs.Common.{◌≡◌, ℕ, ◌*◌, ◌≤◌, List, length, ap, ◌∙◌, arith}
use Rattle.std.specs.Prelude.{Option}
use Rattle.acl_outside.specs.Outside.{StoreRead}
use Rattle.merkle_chunks.specs.HeaderBytes.{IsInRange, fragment_count}
use Rattle.merkle_chunks.specs.declared.header.Header.{Header}
use Rattle.merkle_chunks.proofs.FileLemmas.{length-plain}
use Rattle.skip_decode.specs.CheckedStream.{IsSoundStream}

-- a header in its ranges has no more fragments than the longest stream
pub few_of_header : (h : Header) → IsInRange h → fragment_count h ≤ 131072
few_of_header h range = omega (arith, range.together)

-- a stream that the opener may be reading has the bytes of its fragments
pub whole_stream : (served : Option (List StoreRead)) (held : Option (List ℕ)) (h : Header) (top key stream : List ℕ)
    → IsSoundStream served held h top key stream → length stream ≡ 256 * fragment_count h
whole_stream served held h top key stream is =
    ap (λ (l : List ℕ). length l) is.stream_is ∙ length-plain is.document key
    ∙ ap (λ (g : Header). 256 * fragment_count g) is.origin.header_is
