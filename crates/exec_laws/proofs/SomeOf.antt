-- One of several: a fact of some member of a list.
use Rattle.std.specs.Prelude.{◌≡◌, List, [], ◌∷◌, ◌++◌, filter_map}
use Rattle.std.specs.List.{cons_option}
use Rattle.std.specs.declared.option.Option.{Option}
use Rattle.std.specs.declared.option.Option.TheVariants.{None, Some}
use Rattle.exec_laws.specs.Meanings.{SomeOf}
use Rattle.std.proofs.Common.{inl, inr}

pub some-left : {A : Type 0} (P : A → Type 0) (xs ys : List A) → SomeOf P xs → SomeOf P (xs ++ ys)
some-left P [] ys h = absurd h
some-left P (x ∷ xs) ys (inl h) = inl h
some-left P (x ∷ xs) ys (inr h) = inr (some-left P xs ys h)

pub some-right : {A : Type 0} (P : A → Type 0) (xs ys : List A) → SomeOf P ys → SomeOf P (xs ++ ys)
some-right P [] ys h = h
some-right P (x ∷ xs) ys h = inr (some-right P xs ys h)

pub some-weaker : {A : Type 0} (P Q : A → Type 0) → ((x : A) → P x → Q x) → (xs : List A) → SomeOf P xs → SomeOf Q xs
some-weaker P Q go [] h = absurd h
some-weaker P Q go (x ∷ xs) (inl h) = inl (go x h)
some-weaker P Q go (x ∷ xs) (inr h) = inr (some-weaker P Q go xs h)

-- of what a member becomes
pub some-kept : {A B : Type 0} (P : A → Type 0) (Q : B → Type 0) (f : A → Option B) → ((x : A) → P x → (y : B) × (f x ≡ Some y) × Q y)
    → (xs : List A) → SomeOf P xs → SomeOf Q (filter_map f xs)
some-kept P Q f go [] h = absurd h
some-kept P Q f go (x ∷ xs) (inl h) = let one = go x h in rw one.1 (inl one.2)
some-kept {B = B} P Q f go (x ∷ xs) (inr h) = by_option (f x) (some-kept P Q f go xs h)
  where
    by_option : (o : Option B) → SomeOf Q (filter_map f xs) → SomeOf Q (cons_option o (filter_map f xs))
    by_option None later = later
    by_option (Some y) later = inr later
