-- A set has at most 256 members, and the numbers in a head at most 32 bits each.
use Rattle.std.proofs.Common.{◌≡◌, ℕ, ◌+◌, ◌-◌, ◌/◌, ◌≤◌, Some, length, take, drop, arith, rules}
use Rattle.skip_decode.specs.StreamHeads.{inner_bit, number_width}
use Rattle.skip_decode.specs.inside.HeadReading.{head_bytes}
use Rattle.skip_decode.specs.inside.Windows.{HasRead, HasReadWithin}
use Rattle.skip_decode.proofs.HeadBits.{few_members, few_head_bytes}
use Rattle.skip_decode.proofs.HeadSizes.{head-by_bit, head-later, read-to}
use Rattle.skip_decode.proofs.MoveLaws.{err-any, err-so}
use Rattle.skip_decode.proofs.Touches.{within-more}
use Rattle.skip_decode.proofs.head_read.read_head.Goals as goal

pub read_head_of-requires-clause-room : goal.read_head_of-requires-clause-room
read_head_of-requires-clause-room g c =
    let few : length c.args.members.now ≤ 256 = few_members c.args.members.now c.count-count.ensures.whole in
    let count : c.count-count.result ≤ 256 = omega (arith, few, c.count-count.ensures.number) in
    let size = few_head_bytes c.count-count.result c.binary_length-number.result c.in-Some.inner c.args.width count c.binary_length-number.ensures.few c.requires.width in
    omega (arith, size, c.head_bytes-long.ensures)

pub returns-clause-opens : goal.returns-clause-opens
returns-clause-opens g c = λ first start has.
    let number : ℕ = c.binary_length-number.result in
    let counted : number ≡ number_width (length c.args.members.now) = search rules in
    let size : c.head_bytes-long.result ≡ head_bytes (length c.args.members.now) number c.in-Some.inner c.args.width = search rules in
    let front = rw c.in-Some.is at c.in_ok-inner.ensures.opens first start has in
    let bit : inner_bit number (take ((9 + number) / 8) c.read_inner.new.buffer) ≡ Some c.in-Some.inner = rw c.in-Some.is at c.in_ok-inner.ensures.bit in
    read-to c.read_head_of.result c.args.members.now c.args.width c.args.place ((9 + number) / 8) c.head_bytes-long.result number c.in-Some.inner
    c.read_inner.new.buffer c.read_head_of.new.buffer
    (λ to. HasRead first start to c.read_head_of.new.window.at (g.F.Fragments.opened c.read_head_of.new.window.source))
    c.count-count.ensures.row counted size bit c.read_head_of.ensures.front c.read_head_of.ensures.whole (c.read_head_of.ensures.opens first start front)

pub returns-in_err-inner-clause-bound : goal.returns-in_err-inner-clause-bound
returns-in_err-inner-clause-bound g c = λ first start has. err-any c.from_residual.result (λ stream is.
    let number : ℕ = c.binary_length-number.result in
    let counted : number ≡ number_width (length c.args.members.now) = search rules in
    head-later (λ to. HasReadWithin first start to (g.F.Fragments.opened c.read_inner.new.window.source))
    c.args.members.now c.args.width c.args.place (c.args.end - c.args.place) number (drop c.args.place stream)
    c.count-count.ensures.row counted
    (λ n later. within-more first start (c.args.place + (9 + number) / 8) n _ later
    (c.in_err-inner.ensures.bound first start has)))

pub returns-clause-bound : goal.returns-clause-bound
returns-clause-bound g c = λ first start has.
    let number : ℕ = c.binary_length-number.result in
    let counted : number ≡ number_width (length c.args.members.now) = search rules in
    let size : c.head_bytes-long.result ≡ head_bytes (length c.args.members.now) number c.in-Some.inner c.args.width =
    search rules in
    let front = rw c.in-Some.is at c.in_ok-inner.ensures.opens first start has in
    err-so c.read_head_of.result (λ ends stream is.
    let inner = rw c.in-Some.is at c.in_ok-inner.ensures.inner stream (c.read_head_of.ensures.narrows stream is) in
    head-by_bit (λ to. HasReadWithin first start to (g.F.Fragments.opened c.read_head_of.new.window.source))
    c.args.members.now c.args.width c.args.place (c.args.end - c.args.place) number (drop c.args.place stream)
    c.count-count.ensures.row counted c.in-Some.inner c.head_bytes-long.result size inner ends)
    (c.read_head_of.ensures.bound first start front)
