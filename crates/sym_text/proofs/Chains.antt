-- One reader after another, as the code runs them.
use Rattle.std.proofs.Common.{◌≡◌, ℕ, true, false, List, ap, ◌∙◌, subst, sym}
use Rattle.sym_text.specs.declared.fault.Fault.{Fault}
use Rattle.sym_text.specs.declared.fault.Fault.TheVariants.{Refused, OutOfMemory}
use Rattle.sym_text.specs.Outcome.{Outcome, Got, Stopped, Reader, pass, go_on, ◌>>=◌, IsStop}

pub got_then : {A B : Type 0} (p : Reader A) (q : A → Reader B) (text : List ℕ) (a : A) (rest : List ℕ) (o : Outcome B)
    → p text ≡ Got a rest → q a rest ≡ o → (p >>= q) text ≡ o
unfolding go_on
got_then p q text a rest o got next = ap (λ x. pass x q) got ∙ next

pub stop_then : {A B : Type 0} (p : Reader A) (q : A → Reader B) (text : List ℕ) (fault : Fault) → IsStop fault (p text)
    → IsStop fault ((p >>= q) text)
unfolding go_on
stop_then {A} {B} p q text fault stop = passed (p text) stop
  where
    by_fault : (fault : Fault) (a : A) (rest : List ℕ) → IsStop fault (Got a rest) → IsStop fault (q a rest)
    by_fault (Refused left) a rest stop = absurd stop
    by_fault OutOfMemory a rest stop = tt

    at_stop : (fault : Fault) (rest : List ℕ) → IsStop {A = A} fault (Stopped rest) → IsStop {A = B} fault (Stopped rest)
    at_stop (Refused left) rest stop = stop
    at_stop OutOfMemory rest stop = tt

    passed : (o : Outcome A) → IsStop fault o → IsStop fault (pass o q)
    passed (Got a rest) stop = by_fault fault a rest stop
    passed (Stopped rest) stop = at_stop fault rest stop

pub stop_later : {A B : Type 0} (p : Reader A) (q : A → Reader B) (text : List ℕ) (a : A) (rest : List ℕ) (fault : Fault)
    → p text ≡ Got a rest → IsStop fault (q a rest) → IsStop fault ((p >>= q) text)
unfolding go_on
stop_later p q text a rest fault got stop = subst (λ o. IsStop fault (pass o q)) (sym got) stop

pub ruleset chains = (got_then, stop_then, stop_later)
