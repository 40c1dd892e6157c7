use Rattle.std.proofs.Common.{◌∙◌, ◌*◌, ◌≡◌, sym, ap, arith}
use Rattle.placement.specs.Placement.{owned_of, owner_of}
use Rattle.split_exec.proofs.LocalLemmas.{by_col_low}
use Rattle.split_exec.proofs.own.number_by_col.Goals as goal

pub overflow_mul-result : goal.overflow_mul-result
overflow_mul-result g c =
    let ts = g.P.Placement.triples c.args.place.now in
    let own : owner_of ts c.args.col ≡ c.args.rank = sym c.seat-seat.ensures.owner ∙ c.if-seat-rank.false in
    let low = by_col_low ts c.args.array.now c.args.rank c.args.row c.args.col (g.met.P.Placement.placed c.args.place.now) c.requires.extent c.requires.row c.requires.col own in
    let same : c.args.row * c.owned.result ≡ c.args.row * owned_of ts c.args.rank = ap (λ n. c.args.row * n) c.owned.ensures in
    omega (arith, low, same, c.requires.few)

pub overflow_add-result : goal.overflow_add-result
overflow_add-result g c =
    let ts = g.P.Placement.triples c.args.place.now in
    let own : owner_of ts c.args.col ≡ c.args.rank = sym c.seat-seat.ensures.owner ∙ c.if-seat-rank.false in
    let low = by_col_low ts c.args.array.now c.args.rank c.args.row c.args.col (g.met.P.Placement.placed c.args.place.now) c.requires.extent c.requires.row c.requires.col own in
    let same : c.args.row * c.owned.result ≡ c.args.row * owned_of ts c.args.rank = ap (λ n. c.args.row * n) c.owned.ensures in
    omega (arith, low, same, c.seat-seat.ensures.local, c.requires.few)
