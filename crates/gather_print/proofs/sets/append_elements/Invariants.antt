-- The elements so far are appended.
use Rattle.std.proofs.Common.{◌≡◌, ◌++◌, take}
use Rattle.std.specs.List.{flat_map}
use Rattle.gather_print.specs.SetsText.{element_word}
use Rattle.gather_print.proofs.sets.append_elements.Given as goal

abbrev pub invariant-loop-element : goal.invariant-loop-element
invariant-loop-element l = l.text ≡ l.fn.text ++ flat_map element_word (take l.element-index l.elements)
