use Rattle.std.proofs.Common.{◌≡◌, ℕ, ◌+◌, ◌-◌, List, ◌++◌, length, take, drop, sym, ◌∙◌, subst, arith}
use Rattle.std.proofs.Math.Seq.{take-append_seam}
use Rattle.std.proofs.lemmas.List.{take_all, length-take-le, take-append-drop, drop-drop, length-drop}
use Rattle.bern_ports.proofs.mem_shelf.give.Goals as goal

split_rest : (bytes buf new : List ℕ) (offset count : ℕ) → new ≡ take count (take (length bytes - offset) (drop offset bytes)) → length new ≡ count
    → drop offset bytes ≡ take count (new ++ buf) ++ drop (offset + count) bytes
split_rest bytes buf new offset count copied size =
    let front : take count (new ++ buf) ≡ new = subst (λ n. take n (new ++ buf) ≡ new) size (take-append_seam new buf) in
    let whole : take (length bytes - offset) (drop offset bytes) ≡ drop offset bytes = take_all (length bytes - offset) (drop offset bytes) (omega (arith, length-drop offset bytes)) in
    rw (front, copied, whole, sym (drop-drop count offset bytes)) (sym (take-append-drop count (drop offset bytes)))

pub returns-clause-next : goal.returns-clause-next
returns-clause-next c = split_rest c.args.bytes.now _ _ c.args.offset c.min-count.result c.copy_from_slice.ensures.after (c.copy_from_slice.ensures.len ∙ length-take-le c.min-count.result c.args.buf.now (omega (arith, c.min-count.ensures, c.min.ensures)))
