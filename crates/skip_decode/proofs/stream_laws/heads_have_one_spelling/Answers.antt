use Rattle.skip_decode.proofs.HeadExact.{head_exact}
use Rattle.skip_decode.proofs.stream_laws.heads_have_one_spelling.Goals as goal

pub returns : goal.returns
returns c = record {
  spelled = λ members w left bytes head row fit is. (head_exact members w left bytes head row fit is).spelled;
  counted = λ members w left bytes head row fit is. (head_exact members w left bytes head row fit is).counted;
  sizes = λ members w left bytes head row fit is.
      let exact = head_exact members w left bytes head row fit is in (exact.within, exact.fits);
  tag = λ members w left bytes head row fit is. (head_exact members w left bytes head row fit is).tag;
  below = λ members w left bytes head row fit is.
      let exact = head_exact members w left bytes head row fit is in (exact.row, exact.part);
}
