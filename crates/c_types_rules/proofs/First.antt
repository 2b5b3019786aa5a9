-- The first of refusals is the least of them.
use Rattle.std.proofs.Common.{◌≡◌, ℕ, Bool, true, false, List, [], ◌∷◌, refl, sym, subst, arith}
use Rattle.std.specs.Prelude.{Option, Some, None, All, Contains, not, nat_lt}
use Rattle.std.proofs.lemmas.List.Elements.{Contains-append_left, Contains-append_right, Contains-push, All-nil, All-cons, All-weaker}
use Rattle.c_types_rules.specs.declared.at.At.{At}
use Rattle.c_types_rules.specs.Laws.{HaveFirst}
use Rattle.c_types_rules.specs.Programs.{stands_before, is_no_later, first_by, earlier, first_of}

total : (one other : ℕ) (p q : Bool) → (p ≡ false → q ≡ true) → stands_before one other p ≡ false → stands_before other one q ≡ true
total one other p q h e = grind (arith, h, e)

through : (a b c : ℕ) (p q r : Bool) → (p ≡ true → q ≡ true → r ≡ true) → stands_before a b p ≡ true → stands_before b c q ≡ true
    → stands_before a c r ≡ true
through a b c p q r h e f = grind (arith, h, e, f)

codes_total : (one other : ℕ) → not (nat_lt other one) ≡ false → not (nat_lt one other) ≡ true
codes_total one other e = grind (arith, e)

codes_through : (a b c : ℕ) → not (nat_lt b a) ≡ true → not (nat_lt c b) ≡ true → not (nat_lt c a) ≡ true
codes_through a b c e f = grind (arith, e, f)

-- one of two stands no later than the other
pub either : (one other : At) → is_no_later one other ≡ false → is_no_later other one ≡ true
either one other e =
    total one.unit other.unit _ _
    (total one.refusal.line other.refusal.line _ _
    (total one.refusal.column other.refusal.column _ _ (codes_total one.refusal.code other.refusal.code))) e

pub no_later : (one other third : At) → is_no_later one other ≡ true → is_no_later other third ≡ true → is_no_later one third ≡ true
no_later one other third e f =
    through one.unit other.unit third.unit _ _ _
    (through one.refusal.line other.refusal.line third.refusal.line _ _ _
    (through one.refusal.column other.refusal.column third.refusal.column _ _ _
    (codes_through one.refusal.code other.refusal.code third.refusal.code))) e f

pub same_time : (one : At) → is_no_later one one ≡ true
same_time one = by_test (is_no_later one one) refl
  where
    by_test : (b : Bool) → is_no_later one one ≡ b → is_no_later one one ≡ true
    by_test true e = e
    by_test false e = either one one e

-- the first of a list that begins with one
listed_by : (one other : At) (others : List At) (b : Bool) → Contains others other → Contains (one ∷ others) (first_by b one other)
listed_by one other others true h = Contains-append_left (one ∷ []) others one (Contains-push [] one)
listed_by one other others false h = Contains-append_right (one ∷ []) others other h

some : {A : Type 0} {x y : A} → Some x ≡ Some y → x ≡ y
some e = cc

listed : (all : List At) (one : At) → first_of all ≡ Some one → Contains all one
listed [] one e = absurd (cc)
listed (next ∷ others) one e = by_first (λ x h. listed others x h) (first_of others) refl e
  where
    by_first : ((x : At) → first_of others ≡ Some x → Contains others x) → (first : Option At) → first_of others ≡ first
        → earlier next first ≡ Some one → Contains (next ∷ others) one
    by_first before None is found =
        subst (λ x. Contains (next ∷ others) x) (some found) (Contains-append_left (next ∷ []) others next (Contains-push [] next))
    by_first before (Some other) is found =
        subst (λ x. Contains (next ∷ others) x) (some found) (listed_by next other others (is_no_later next other) (before other is))

empty : (all : List At) → first_of all ≡ None → all ≡ []
empty [] e = refl
empty (next ∷ others) e = by_first (first_of others) e
  where
    by_first : (first : Option At) → earlier next first ≡ None → (next ∷ others) ≡ []
    by_first None found = absurd (cc)
    by_first (Some other) found = absurd (cc)

abbrev Leads : List At → At → Type 0
Leads all one = All (λ (other : At). is_no_later one other ≡ true) all

leads_by : (next other : At) (others : List At) (b : Bool) → is_no_later next other ≡ b → Leads others other
    → Leads (next ∷ others) (first_by b next other)
leads_by next other others true e h =
    All-cons (λ (x : At). is_no_later next x ≡ true) next others (same_time next)
    (All-weaker (λ (x : At). is_no_later other x ≡ true) (λ (x : At). is_no_later next x ≡ true)
    (λ x g. no_later next other x e g) others h)
leads_by next other others false e h = All-cons (λ (x : At). is_no_later other x ≡ true) next others (either next other e) h

leads : (all : List At) (one : At) → first_of all ≡ Some one → Leads all one
leads [] one e = absurd (cc)
leads (next ∷ others) one e = by_first (λ x h. leads others x h) (first_of others) refl e
  where
    by_first : ((x : At) → first_of others ≡ Some x → Leads others x) → (first : Option At) → first_of others ≡ first
        → earlier next first ≡ Some one → Leads (next ∷ others) one
    by_first before None is found =
        subst (λ x. Leads (next ∷ others) x) (some found)
        (subst (λ x. Leads (next ∷ x) next) (sym (empty others is))
        (All-cons (λ (x : At). is_no_later next x ≡ true) next [] (same_time next) (All-nil (λ (x : At). is_no_later next x ≡ true))))
    by_first before (Some other) is found =
        subst (λ x. Leads (next ∷ others) x) (some found) (leads_by next other others (is_no_later next other) refl (before other is))

pub have_first : HaveFirst
have_first = record { listed = listed; first = leads; empty = empty }
