-- One text behind another.
use Rattle.std.proofs.Common.{◌≡◌, ℕ, ◌+◌, List, ◌++◌, ◌∙◌, add-one, ap, sym, append_assoc}
use Rattle.std.proofs.lemmas.List.{append-nil}
use Rattle.session_generator.specs.Generated.{proc_line, proc_lines, structure_line}

pub ruleset appending = (append_assoc, append-nil)

-- a line more
pub one_more : (n : ℕ) → (structure_line ++ proc_lines n) ++ proc_line n ≡ structure_line ++ proc_lines (n + 1)
one_more n = rw add-one (append_assoc structure_line (proc_lines n) (proc_line n))

-- a front of a line, and then the rest of it
pub joined : (old mid new front name rest : List ℕ) → mid ≡ old ++ front → new ≡ mid ++ (name ++ rest)
    → new ≡ old ++ ((front ++ name) ++ rest)
joined old mid new front name rest was is =
    is ∙ ap (λ xs. xs ++ (name ++ rest)) was ∙ append_assoc old front (name ++ rest)
    ∙ ap (λ xs. old ++ xs) (sym (append_assoc front name rest))
