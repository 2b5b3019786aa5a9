-- The readings of a form and of the same form with more levels open.
use Rattle.std.proofs.Common.{◌≡◌, ℕ, zero, suc, ◌≤◌, ◌<◌, Bool, true, false, cond, List, [], ◌∷◌, ◌++◌, length, refl, sym, ap, ap₂, subst}
use Rattle.std.proofs.Common.{arith}
use Rattle.std.specs.Prelude.{◌==◌, ◌&&◌, ◌||◌}
use Rattle.grammar_laws.specs.Form.{Form, Word, Closed, Nothing, Both, Either, Many, Nearest, Known, begins_in, may_be_empty, starts}
use Rattle.grammar_laws.specs.Reading.{Read, Done, Stop, go_on, repeat, reads, Opens, OpensWord, OpensLevel, OpensNothing, OpensBoth}
use Rattle.grammar_laws.specs.Reading.{OpensEither, OpensMany, OpensNearest, OpensKnown, LeavesLess, Follows}

pub same_empty : {form other : Form} → Opens form other → may_be_empty form ≡ may_be_empty other
same_empty OpensWord = refl
same_empty OpensLevel = refl
same_empty OpensNothing = refl
same_empty (OpensBoth one second) = ap₂ (λ a b. a && b) (same_empty one) (same_empty second)
same_empty (OpensEither one second) = ap₂ (λ a b. a || b) (same_empty one) (same_empty second)
same_empty (OpensMany one) = refl
same_empty (OpensNearest one) = refl
same_empty (OpensKnown one) = refl

pub same_starts : {form other : Form} → Opens form other → starts form ≡ starts other
same_starts OpensWord = refl
same_starts OpensLevel = refl
same_starts OpensNothing = refl
same_starts (OpensBoth one second) =
    ap₂ (λ a b. a ++ b) (same_starts one) (ap₂ (λ e s. cond e s []) (same_empty one) (same_starts second))
same_starts (OpensEither one second) = ap₂ (λ a b. a ++ b) (same_starts one) (same_starts second)
same_starts (OpensMany one) = same_starts one
same_starts (OpensNearest one) = refl
same_starts (OpensKnown one) = refl

-- no more is left than so many words
abbrev pub Leaves : Read → ℕ → Type 0
Leaves (Done rest) count = length rest ≤ count
Leaves (Stop deep rest) count = length rest ≤ count

leaves_chosen : (b : Bool) (one other : Read) (count : ℕ) → Leaves one count → Leaves other count → Leaves (cond b one other) count
leaves_chosen true one other count l m = l
leaves_chosen false one other count l m = m

leaves_going : (read : Read) (next : List ℕ → Read) (count : ℕ) → Leaves read count → ((mid : List ℕ) → Leaves (next mid) (length mid))
    → Leaves (go_on read next) count
leaves_going (Done mid) next count l others = by_read (next mid) (others mid)
  where
    by_read : (r : Read) → Leaves r (length mid) → Leaves r count
    by_read (Done rest) m = omega arith
    by_read (Stop deep rest) m = omega arith
leaves_going (Stop deep mid) next count l others = l

leaves_more : (read : Read) (less more : ℕ) → less ≤ more → Leaves read less → Leaves read more
leaves_more (Done rest) less more fits l = omega arith
leaves_more (Stop deep rest) less more fits l = omega arith

leaves_repeat : (read : List ℕ → Read) (begin : List ℕ) → ((from : List ℕ) → Leaves (read from) (length from)) → (times : ℕ) (from : List ℕ)
    → Leaves (repeat times read begin from) (length from)
leaves_repeat read begin one zero from = omega arith
leaves_repeat read begin one (suc times) from =
    leaves_chosen (begins_in begin from) _ (Done from) (length from)
    (leaves_going (read from) (λ rest. repeat times read begin rest) (length from) (one from) (leaves_repeat read begin one times))
    (omega arith)

-- a reading leaves no more than there was
pub leaves : (form : Form) (from : List ℕ) → Leaves (reads form from) (length from)
leaves (Word class) [] = omega arith
leaves (Word class) (word ∷ words) =
    leaves_chosen (class == word) (Done words) (Stop false (word ∷ words)) (suc (length words)) (omega arith) (omega arith)
leaves (Closed class) [] = omega arith
leaves (Closed class) (word ∷ words) = omega arith
leaves Nothing from = omega arith
leaves (Both one second) from = leaves_going (reads one from) (λ rest. reads second rest) (length from) (leaves one from) (leaves second)
leaves (Either one second) from = leaves_chosen (begins_in (starts one) from) _ _ (length from) (leaves one from) (leaves second from)
leaves (Many one) from = leaves_repeat (reads one) (starts one) (leaves one) (length from) from
leaves (Nearest class one) [] = omega arith
leaves (Nearest class one) (word ∷ words) =
    leaves_chosen (class == word) (reads one words) (Done (word ∷ words)) (suc (length words))
    (leaves_more (reads one words) (length words) (suc (length words)) (omega arith) (leaves one words)) (omega arith)
leaves (Known facts one) from = leaves one from

less_than : (read : Read) (count more : ℕ) → Leaves read count → count < more → LeavesLess read more
less_than (Done rest) count more l fits = omega arith
less_than (Stop deep rest) count more l fits = omega arith

follows_going : (read other : Read) (next others : List ℕ → Read) → Follows read other → ((mid : List ℕ) → Follows (next mid) (others mid))
    → ((mid : List ℕ) → Leaves (others mid) (length mid))
    → Follows (go_on read next) (go_on other others)
follows_going (Done mid) other next others f g l = subst (λ r. Follows (next mid) (go_on r others)) (sym f) (g mid)
follows_going (Stop false at) other next others f g l = ap (λ r. go_on r others) f
follows_going (Stop true at) (Done mid) next others f g l = less_than (others mid) (length mid) (length at) (l mid) f
follows_going (Stop true at) (Stop deep mid) next others f g l = f

follows_chosen : (b : Bool) (one more second others : Read) → Follows one more → Follows second others
    → Follows (cond b one second) (cond b more others)
follows_chosen true one more second others f g = f
follows_chosen false one more second others f g = g

follows_repeat : (read more : List ℕ → Read) (begin : List ℕ) → ((from : List ℕ) → Follows (read from) (more from))
    → ((from : List ℕ) → Leaves (more from) (length from))
    → (times : ℕ) (from : List ℕ) → Follows (repeat times read begin from) (repeat times more begin from)
follows_repeat read more begin f l zero from = refl
follows_repeat read more begin f l (suc times) from =
    follows_chosen (begins_in begin from) _ _ _ _
    (follows_going (read from) (more from) (λ rest. repeat times read begin rest) (λ rest. repeat times more begin rest) (f from)
    (follows_repeat read more begin f l times) (leaves_repeat more begin l times))
    refl

follows_level : (class word : ℕ) (inner : Form) (words : List ℕ) (same : Bool) → (class == word) ≡ same
    → Follows (Stop same (word ∷ words)) (go_on (cond same (Done words) (Stop false (word ∷ words))) (λ rest. reads inner rest))
follows_level class word inner words true e =
    less_than (reads inner words) (length words) (suc (length words)) (leaves inner words) (omega arith)
follows_level class word inner words false e = refl

pub follows : {form other : Form} → Opens form other → (from : List ℕ) → Follows (reads form from) (reads other from)
follows (OpensWord {class}) [] = refl
follows (OpensWord {class}) (word ∷ words) = by_test (class == word)
  where
    by_test : (b : Bool) → Follows (cond b (Done words) (Stop false (word ∷ words))) (cond b (Done words) (Stop false (word ∷ words)))
    by_test true = refl
    by_test false = refl
follows (OpensLevel {class} {inner}) [] = refl
follows (OpensLevel {class} {inner}) (word ∷ words) = follows_level class word inner words (class == word) refl
follows OpensNothing from = refl
follows (OpensBoth {one} {more} {second} {others} o p) from =
    follows_going (reads one from) (reads more from) (λ rest. reads second rest) (λ rest. reads others rest) (follows o from) (follows p)
    (leaves others)
follows (OpensEither {one} {more} {second} {others} o p) from =
    subst (λ s. Follows (reads (Either one second) from) (cond (begins_in s from) (reads more from) (reads others from))) (same_starts o)
    (follows_chosen (begins_in (starts one) from) (reads one from) (reads more from) (reads second from) (reads others from)
    (follows o from) (follows p from))
follows (OpensMany {one} {more} o) from =
    subst (λ s. Follows (reads (Many one) from) (repeat (length from) (reads more) s from)) (same_starts o)
    (follows_repeat (reads one) (reads more) (starts one) (follows o) (leaves more) (length from) from)
follows (OpensNearest {class} {one} {more} o) [] = refl
follows (OpensNearest {class} {one} {more} o) (word ∷ words) =
    follows_chosen (class == word) (reads one words) (reads more words) (Done (word ∷ words)) (Done (word ∷ words)) (follows o words) refl
follows (OpensKnown o) from = follows o from
