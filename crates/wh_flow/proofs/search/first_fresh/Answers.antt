use Rattle.std.proofs.Common.{bit_and, ◌-◌}
use Rattle.wh_flow.proofs.FreshLetters.{first_of}
use Rattle.wh_flow.proofs.search.first_fresh.Goals as goal

pub returns : goal.returns
returns c = first_of c.args.set c.args.seen c.bits.result c.bits-2.result (bit_and c.bits.result (18446744073709551615 - c.bits-2.result)) c.lowest_bit.result
    c.bits.ensures c.bits-2.ensures c.bits-2.type_inv (λ e. e) (λ y b. b) c.lowest_bit.ensures
