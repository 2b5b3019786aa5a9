-- What holds of each expression: of a mapped atom and fact.
use Rattle.std.specs.Prelude.{List, [], ◌∷◌, map, All}
use Rattle.std.proofs.lemmas.List.Elements.{All-nil, All-cons, All-map, All-weaker}
use Rattle.shape_data.specs.declared.symbolic.Atom.{Atom}
use Rattle.shape_data.specs.declared.symbolic.Atom.TheVariants.{Points, Seg, Junk}
use Rattle.shape_data.specs.declared.symbolic.Exp.{Exp}
use Rattle.shape_data.specs.declared.symbolic.Fact.{Fact}
use Rattle.shape_data.specs.declared.symbolic.Fact.TheVariants.{Eq, Ne}
use Rattle.sym_parts.specs.Laws.Each.{EachInAtom, EachInFact}
use Rattle.sym_parts.specs.Laws.Mapped.{on_atom, on_fact}

-- what holds everywhere holds of each element
pub All-everywhere : {A : Type 0} (P : A → Type 0) → ((x : A) → P x) → (xs : List A) → All P xs
All-everywhere P all [] = All-nil P
All-everywhere P all (x ∷ xs) = All-cons P x xs (all x) (All-everywhere P all xs)

-- the function gives Q where P holds
module _ (P Q : Exp → Type 0) (f : Exp → Exp) (gives : (e : Exp) → P e → Q (f e)) where
  pub each-on_exps : (es : List Exp) → All P es → All Q (map f es)
  each-on_exps es h = All-map Q f es (All-weaker P (λ e. Q (f e)) gives es h)

  pub each-on_atom : (atom : Atom) → EachInAtom P atom → EachInAtom Q (on_atom f atom)
  each-on_atom (Points at kind fields) h = (gives at h.0, each-on_exps fields h.1)
  each-on_atom (Seg kind link from to) h = (gives from h.0, gives to h.1)
  each-on_atom Junk h = tt

  pub each-on_atoms : (atoms : List Atom) → All (EachInAtom P) atoms → All (EachInAtom Q) (map (on_atom f) atoms)
  each-on_atoms atoms h =
      All-map (EachInAtom Q) (on_atom f) atoms (All-weaker (EachInAtom P) (λ atom. EachInAtom Q (on_atom f atom)) each-on_atom atoms h)

  pub each-on_fact : (fact : Fact) → EachInFact P fact → EachInFact Q (on_fact f fact)
  each-on_fact (Eq left right) h = (gives left h.0, gives right h.1)
  each-on_fact (Ne left right) h = (gives left h.0, gives right h.1)

  pub each-on_facts : (facts : List Fact) → All (EachInFact P) facts → All (EachInFact Q) (map (on_fact f) facts)
  each-on_facts facts h =
      All-map (EachInFact Q) (on_fact f) facts (All-weaker (EachInFact P) (λ fact. EachInFact Q (on_fact f fact)) each-on_fact facts h)

-- where P holds of every expression, it holds of each of an atom and of a fact
module _ (P : Exp → Type 0) (all : (e : Exp) → P e) where
  pub each-everywhere_atom : (atom : Atom) → EachInAtom P atom
  each-everywhere_atom (Points at kind fields) = (all at, All-everywhere P all fields)
  each-everywhere_atom (Seg kind link from to) = (all from, all to)
  each-everywhere_atom Junk = tt

  pub each-everywhere_fact : (fact : Fact) → EachInFact P fact
  each-everywhere_fact (Eq left right) = (all left, all right)
  each-everywhere_fact (Ne left right) = (all left, all right)
