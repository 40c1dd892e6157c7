use Rattle.std.proofs.Common.{◌≡◌, ℕ, ◌+◌, ◌<◌, List, [], ◌∷◌, ◌++◌, length, take, drop, get_or, flat_map, Bor, sym, ap, ◌∙◌, subst, append-nil, arith}
use Rattle.std.proofs.lemmas.List.{take_more, take-append-drop}
use Rattle.std.proofs.lemmas.Grind.{flat_map-append}
use Rattle.std.specs.Io.KnownBytes.{Appends}
use Rattle.std.proofs.KnownBytes.{Appends-trans}
use Rattle.bern_ports.specs.Frames.{Port}
use Rattle.bern_top.specs.Answers.{StopsWithin}
use Rattle.bern_top.proofs.WritingLemmas.{over, stops_after, stops_before}
use Rattle.bern_top.proofs.writing.write_pieces.Goals as goal

abbrev bytes_of_piece : Bor (List ℕ) → List ℕ
bytes_of_piece piece = piece.now

one_more : (pieces : List (Bor (List ℕ))) (i : ℕ) (d : Bor (List ℕ)) → i < length pieces → flat_map bytes_of_piece (take (i + 1) pieces) ≡ flat_map bytes_of_piece (take i pieces) ++ bytes_of_piece (get_or pieces i d)
one_more pieces i d inside =
    ap (λ xs. flat_map bytes_of_piece xs) (take_more pieces i d inside) ∙ flat_map-append bytes_of_piece (take i pieces) (get_or pieces i d ∷ [])
    ∙ ap (λ t. flat_map bytes_of_piece (take i pieces) ++ t) (append-nil (bytes_of_piece (get_or pieces i d)))

all_parts : (pieces : List (Bor (List ℕ))) (i : ℕ) (d : Bor (List ℕ)) → i < length pieces
    → flat_map bytes_of_piece pieces ≡ (flat_map bytes_of_piece (take i pieces) ++ bytes_of_piece (get_or pieces i d)) ++ flat_map bytes_of_piece (drop (i + 1) pieces)
all_parts pieces i d inside =
    ap (λ xs. flat_map bytes_of_piece xs) (sym (take-append-drop (i + 1) pieces)) ∙ flat_map-append bytes_of_piece (take (i + 1) pieces) (drop (i + 1) pieces)
    ∙ ap (λ t. t ++ flat_map bytes_of_piece (drop (i + 1) pieces)) (one_more pieces i d inside)

pub loop-piece-preserved : goal.loop-piece-preserved
loop-piece-preserved g c =
    let none : Bor (List ℕ) = record { ref_ptr = (0, 0); now = [] } in
    record {
      later = omega (arith, c.loop-piece.invariant.later, c.in-Ok.ensures.later);
      wrote = subst (Appends (g.S.Sink.written c.args.sink.now) (g.S.Sink.written c.write_whole.new.sink))
          (sym (one_more c.args.pieces.now c.loop-piece.piece-index none c.loop-piece-test.true))
          (Appends-trans _ _ _ _ _ c.loop-piece.invariant.wrote c.in-Ok.ensures.writes);
    }

pub returns-in-Err-clause-writes : goal.returns-in-Err-clause-writes
returns-in-Err-clause-writes g c =
    let none : Bor (List ℕ) = record { ref_ptr = (0, 0); now = [] } in
    let pieces : List (Bor (List ℕ)) = c.args.pieces.now in
    let i : ℕ = c.loop-piece.piece-index in
    let whole : Port = over (g.S.Sink.written c.args.sink.now) (g.S.Sink.written c.write_whole.new.sink) (g.S.Sink.faults c.args.sink.now) (g.S.Sink.faults c.write_whole.new.sink) in
    subst (StopsWithin whole) (sym (all_parts pieces i none c.loop-piece-test.true))
    (stops_before whole.old whole.new whole.before whole.now (flat_map bytes_of_piece (take i pieces) ++ bytes_of_piece (get_or pieces i none)) (flat_map bytes_of_piece (drop (i + 1) pieces))
    (stops_after whole.old (g.S.Sink.written c.loop-piece.sink) whole.new whole.before (g.S.Sink.faults c.loop-piece.sink) whole.now
    (flat_map bytes_of_piece (take i pieces)) (bytes_of_piece (get_or pieces i none)) c.loop-piece.invariant.later c.loop-piece.invariant.wrote c.in-Err.ensures.writes))
