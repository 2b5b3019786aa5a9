-- How the words of a form are put together of the words of its parts, and taken apart.
use Rattle.std.proofs.Common.{◌≡◌, ◌⊎◌, inl, inr, ℕ, suc, false, List, [], ◌∷◌, ◌++◌, length, refl, sym, ap, ◌∙◌, subst, append_assoc}
use Rattle.grammar_laws.specs.Form.{Facts, Form, Word as AWord, Nothing, Both, Either, Many, Nearest, Known, begins_in, joined, Repeats}
use Rattle.grammar_laws.specs.Form.{Derives}
use Rattle.c_grammar.specs.declared.tokens.places.Place.{Place}
use Rattle.c_grammar.specs.Words.{Word, classes}
use Rattle.c_grammar.specs.Matching.{IsForm}
use Rattle.c_grammar.specs.Spelling.{word, word_at}

pub length-classes : (words : List Word) → length (classes words) ≡ length words
length-classes [] = refl
length-classes (first ∷ others) = ap suc (length-classes others)

pub classes-append : (front back : List Word) → classes (front ++ back) ≡ classes front ++ classes back
classes-append [] back = refl
classes-append (first ∷ front) back = ap (λ c. first.class ∷ c) (classes-append front back)

-- the classes behind the words of a form
pub classes_of : (form : Form) (from to : List Word) (f : IsForm form from to) → classes from ≡ classes f.front ++ classes to
classes_of form from to f = ap classes f.splits ∙ classes-append f.front to

pub is_word : {class : ℕ} (from to : List Word) → word class from to → IsForm (AWord class) from to
is_word {class} [] to w = absurd w
is_word {class} (first ∷ others) to w = record { front = first ∷ []; splits = ap (λ o. first ∷ o) w.1; derives = ap (λ c. c ∷ []) w.0 }

pub is_word_at : {class : ℕ} (place : Place) (from to : List Word) → word_at place class from to → IsForm (AWord class) from to
is_word_at {class} place [] to w = absurd w
is_word_at {class} place (first ∷ others) to w =
    record { front = first ∷ []; splits = ap (λ o. first ∷ o) w.2; derives = ap (λ c. c ∷ []) w.0 }

pub is_nothing : (from to : List Word) → from ≡ to → IsForm Nothing from to
is_nothing from to same = record { front = []; splits = same; derives = refl }

pub is_both : {one other : Form} {from mid to : List Word} → IsForm one from mid → IsForm other mid to → IsForm (Both one other) from to
is_both {one} {other} {from} {mid} {to} f g = record {
  front = f.front ++ g.front;
  splits = f.splits ∙ ap (λ m. f.front ++ m) g.splits ∙ sym (append_assoc f.front g.front to);
  derives = (
    classes f.front,
    classes g.front,
    classes-append f.front g.front,
    subst (Derives one (classes f.front))
        (classes_of other mid to g) f.derives,
    g.derives,
  );
}

pub is_first : {one other : Form} {from to : List Word} → IsForm one from to → IsForm (Either one other) from to
is_first f = record { front = f.front; splits = f.splits; derives = inl f.derives }

pub is_second : {one other : Form} {from to : List Word} → IsForm other from to → IsForm (Either one other) from to
is_second f = record { front = f.front; splits = f.splits; derives = inr f.derives }

pub is_none : {one : Form} (from to : List Word) → from ≡ to → IsForm (Many one) from to
is_none from to same = record { front = []; splits = same; derives = ([], refl, tt) }

pub is_more : {one : Form} {from mid to : List Word} → IsForm one from mid → IsForm (Many one) mid to → IsForm (Many one) from to
is_more {one} {from} {mid} {to} f g = record {
  front = f.front ++ g.front;
  splits = f.splits ∙ ap (λ m. f.front ++ m) g.splits ∙ sym (append_assoc f.front g.front to);
  derives = (
    classes f.front ∷ g.derives.0,
    classes-append f.front g.front ∙ ap (λ w. classes f.front ++ w) g.derives.1,
    (subst (Derives one (classes f.front)) (classes_of (Many one) mid to g ∙ ap (λ w. w ++ classes to) g.derives.1) f.derives, g.derives.2),
  );
}

pub is_known : {facts : Facts} {one : Form} {from to : List Word} → IsForm one from to → IsForm (Known facts one) from to
is_known f = record { front = f.front; splits = f.splits; derives = f.derives }

pub is_lacking : {class : ℕ} {one : Form} (from to : List Word) → from ≡ to → begins_in (class ∷ []) (classes to) ≡ false
    → IsForm (Nearest class one) from to
is_lacking from to same ends = record { front = []; splits = same; derives = inl (refl, ends) }

there_from : {class : ℕ} {one : Form} (from : List Word) {mid to : List Word} → word class from mid → IsForm one mid to
    → IsForm (Nearest class one) from to
there_from {class} {one} [] {mid} {to} w g = absurd w
there_from {class} {one} (first ∷ others) {mid} {to} w g = record {
  front = first ∷ g.front;
  splits = ap (λ o. first ∷ o) (w.1 ∙ g.splits);
  derives = inr (classes g.front, ap (λ c. c ∷ classes g.front) w.0, g.derives);
}

pub is_there : {class : ℕ} {one : Form} {from mid to : List Word} → word class from mid → IsForm one mid to
    → IsForm (Nearest class one) from to
is_there {class} {one} {from} w g = there_from from w g

-- words, cut where their classes are
pub cut : (one other : List ℕ) (words : List Word) → classes words ≡ one ++ other
    → (front back : List Word) × (words ≡ front ++ back) × (classes front ≡ one) × (classes back ≡ other)
cut [] other words e = ([], words, refl, refl, e)
cut (class ∷ one) other [] e = absurd (cc)
cut (class ∷ one) other (first ∷ words) e =
    let rest : classes words ≡ one ++ other = cc in
    let (front, back, split, f, b) = cut one other words rest in (
      first ∷ front,
      back,
      ap (λ w. first ∷ w) split,
      (let c : first.class ≡ class = cc in ap (λ d. d ∷ classes front) c ∙ ap (λ w. class ∷ w) f),
      b,
    )

pub one_word : (words : List Word) (class : ℕ) (others : List ℕ) → classes words ≡ class ∷ others
    → (first : Word) × (back : List Word) × (words ≡ first ∷ back) × (first.class ≡ class) × (classes back ≡ others)
one_word [] class others e = absurd (cc)
one_word (first ∷ back) class others e = (first, back, refl, cc, cc)

no_word : (words : List Word) → classes words ≡ [] → words ≡ []
no_word [] e = refl
no_word (first ∷ words) e = absurd (cc)

-- a word of the class that leads from some words to others
pub word_part : {class : ℕ} {from to : List Word} → IsForm (AWord class) from to
    → (first : Word) × (first.class ≡ class) × (from ≡ first ∷ to)
word_part {class} {from} {to} f =
    let (first, back, split, c, none) = one_word f.front class [] f.derives in
    (first, c, f.splits ∙ ap (λ w. w ++ to) (split ∙ ap (λ b. first ∷ b) (no_word back none)))

pub nothing_part : {from to : List Word} → IsForm Nothing from to → from ≡ to
nothing_part {from} {to} f = f.splits ∙ ap (λ w. w ++ to) (no_word f.front f.derives)

pub both_parts : {one other : Form} {from to : List Word} → IsForm (Both one other) from to
    → (mid : List Word) × IsForm one from mid × IsForm other mid to
both_parts {one} {other} {from} {to} f =
    let (a, b, split, d, e) = f.derives in
    let (front, back, cuts, is_a, is_b) = cut a b f.front split in (
      back ++ to,
      record {
        front = front;
        splits = f.splits ∙ ap (λ w. w ++ to) cuts ∙ append_assoc front back to;
        derives =
            subst (λ w. Derives one w (classes (back ++ to))) (sym is_a)
            (subst (Derives one a) (ap (λ w. w ++ classes to) (sym is_b) ∙ sym (classes-append back to)) d);
      },
      record { front = back; splits = refl; derives = subst (λ w. Derives other w (classes to)) (sym is_b) e },
    )

pub either_part : {one other : Form} {from to : List Word} → IsForm (Either one other) from to → IsForm one from to ⊎ IsForm other from to
either_part {one} {other} {from} {to} f = by_case f.derives
  where
    by_case : Derives one (classes f.front) (classes to) ⊎ Derives other (classes f.front) (classes to)
        → IsForm one from to ⊎ IsForm other from to
    by_case (inl d) = inl (record { front = f.front; splits = f.splits; derives = d })
    by_case (inr d) = inr (record { front = f.front; splits = f.splits; derives = d })

pub known_part : {facts : Facts} {one : Form} {from to : List Word} → IsForm (Known facts one) from to → IsForm one from to
known_part f = record { front = f.front; splits = f.splits; derives = f.derives }

-- a part that may be lacking is there, or no such word follows
pub nearest_part : {class : ℕ} {one : Form} {from to : List Word} → IsForm (Nearest class one) from to
    → ((from ≡ to) × (begins_in (class ∷ []) (classes to) ≡ false))
    ⊎ ((first : Word) × (mid : List Word) × (first.class ≡ class) × (from ≡ first ∷ mid) × IsForm one mid to)
nearest_part {class} {one} {from} {to} f = by_case f.derives
  where
    by_case : Derives (Nearest class one) (classes f.front) (classes to)
        → ((from ≡ to) × (begins_in (class ∷ []) (classes to) ≡ false))
        ⊎ ((first : Word) × (mid : List Word) × (first.class ≡ class) × (from ≡ first ∷ mid) × IsForm one mid to)
    by_case (inl (none, ends)) = inl (f.splits ∙ ap (λ w. w ++ to) (no_word f.front none), ends)
    by_case (inr (tail, split, d)) =
        let (first, back, cuts, c, is_tail) = one_word f.front class tail split in
        inr (
          first,
          back ++ to,
          c,
          f.splits
              ∙ ap (λ w. w ++ to) cuts,
          record { front = back; splits = refl; derives = subst (λ w. Derives one w (classes to)) (sym is_tail) d },
        )

-- the parts of a form that is repeated
abbrev pub IsMany : Form → List (List ℕ) → List Word → List Word → Type 0
IsMany one parts from to = (front : List Word) × (from ≡ front ++ to) × (classes front ≡ joined parts)
    × Repeats (Derives one) parts (classes to)

pub many_none : (one : Form) {from to : List Word} → IsMany one [] from to → from ≡ to
many_none one {from} {to} m = m.1 ∙ ap (λ w. w ++ to) (no_word m.0 m.2)

pub many_more : (one : Form) (part : List ℕ) (parts : List (List ℕ)) {from to : List Word} → IsMany one (part ∷ parts) from to
    → (mid : List Word) × IsForm one from mid × IsMany one parts mid to
many_more one part parts {from} {to} (all, split, is_parts, repeats) =
    let (front, back, cuts, is_a, is_b) = cut part (joined parts) all is_parts in (
      back ++ to,
      record {
        front = front;
        splits = split ∙ ap (λ w. w ++ to) cuts ∙ append_assoc front back to;
        derives =
            subst (λ w. Derives one w (classes (back ++ to))) (sym is_a)
            (subst (Derives one part) (ap (λ w. w ++ classes to) (sym is_b) ∙ sym (classes-append back to)) repeats.0);
      },
      (back, refl, is_b, repeats.1),
    )

pub many_parts : {one : Form} {from to : List Word} → IsForm (Many one) from to → (parts : List (List ℕ)) × IsMany one parts from to
many_parts f = (f.derives.0, (f.front, f.splits, f.derives.1, f.derives.2))
