-- Objects with one, two and four members, and their shapes.
use Rattle.std.specs.Prelude.{◌≡◌, ℕ, true, List, [], ◌∷◌}
use Rattle.std.specs.declared.option.Option.{Option}
use Rattle.std.specs.declared.option.Option.TheVariants.{Some}
use Rattle.std.proofs.Common.{sym, ap, ◌∙◌, subst}
use Rattle.serde_json.specs.Data.{Data, null, boolean, number, string, array, object, Members, no_members, member}
use Rattle.serde_json.specs.Find.{get}
use Rattle.flow_json.specs.Forms.{go_on, has_names, names_are, read_object}
use Rattle.flow_json.specs.Laws.{IsInverse}
use Rattle.flow_json.proofs.FlowLaws.{at_some, first_member, no_member}
use Rattle.flow_json.proofs.InverseLemmas.{go_on_is, go_on_some, some_is, test_true}

-- ---- shapes

abbrev pub one_member : List ℕ → Data → Data
one_member a x = object (member a x no_members)

abbrev pub two_members : List ℕ → List ℕ → Data → Data → Data
two_members a b x y = object (member a x (member b y no_members))

abbrev pub four_members : List ℕ → List ℕ → List ℕ → List ℕ → Data → Data → Data → Data → Data
four_members a b c d x y z w = object (member a x (member b y (member c z (member d w no_members))))

one_shape : (a : List ℕ) (members : Members) → names_are (a ∷ []) members ≡ true → (x : Data) × (object members ≡ one_member a x)
one_shape a members is =
    let one = first_member a [] members is in
    (one.0, ap object (one.2 ∙ ap (λ rest. member a one.0 rest) (no_member one.1 one.3)))

two_shape : (a b : List ℕ) (members : Members) → names_are (a ∷ b ∷ []) members ≡ true →
    (x : Data) × (y : Data) × (object members ≡ two_members a b x y)
two_shape a b members is =
    let one = first_member a (b ∷ []) members is in
    let two = first_member b [] one.1 one.3 in
    (one.0, two.0, ap object (one.2 ∙ ap (λ rest. member a one.0 rest) (two.2 ∙ ap (λ rest. member b two.0 rest) (no_member two.1 two.3))))

four_shape : (a b c d : List ℕ) (members : Members) → names_are (a ∷ b ∷ c ∷ d ∷ []) members ≡ true →
    (x : Data) × (y : Data) × (z : Data) × (w : Data) × (object members ≡ four_members a b c d x y z w)
four_shape a b c d members is =
    let one = first_member a (b ∷ c ∷ d ∷ []) members is in
    let two = first_member b (c ∷ d ∷ []) one.1 one.3 in
    let three = first_member c (d ∷ []) two.1 two.3 in
    let four = first_member d [] three.1 three.3 in (
      one.0,
      two.0,
      three.0,
      four.0,
      ap object (one.2 ∙ ap (λ rest. member a one.0 rest) (two.2 ∙ ap (λ rest. member b two.0 rest)
          (three.2 ∙ ap (λ rest. member c three.0 rest) (four.2 ∙ ap (λ rest. member d four.0 rest) (no_member four.1 four.3))))),
    )

-- ---- what an object is that was read: it has the names, in this shape

pub read_of_one : {A : Type 0} (a : List ℕ) (read : Data → Option A) (d : Data) (thing : A) → read_object (a ∷ []) read d ≡ Some thing →
    (x : Data) × (d ≡ one_member a x) × (read (one_member a x) ≡ Some thing)
read_of_one a read (object members) thing is =
    let tested = test_true (names_are (a ∷ []) members) (read (object members)) thing is in
    let shape = one_shape a members tested.0 in
    (shape.0, shape.1, ap read (sym shape.1) ∙ tested.1)
read_of_one a read null thing is = cc
read_of_one a read (boolean b) thing is = cc
read_of_one a read (number n) thing is = cc
read_of_one a read (string s) thing is = cc
read_of_one a read (array ds) thing is = cc

pub read_of_two : {A : Type 0} (a b : List ℕ) (read : Data → Option A) (d : Data) (thing : A) →
    read_object (a ∷ b ∷ []) read d ≡ Some thing →
    (x : Data) × (y : Data) × (d ≡ two_members a b x y) × (read (two_members a b x y) ≡ Some thing)
read_of_two a b read (object members) thing is =
    let tested = test_true (names_are (a ∷ b ∷ []) members) (read (object members)) thing is in
    let shape = two_shape a b members tested.0 in
    (shape.0, shape.1, shape.2, ap read (sym shape.2) ∙ tested.1)
read_of_two a b read null thing is = cc
read_of_two a b read (boolean _) thing is = cc
read_of_two a b read (number n) thing is = cc
read_of_two a b read (string s) thing is = cc
read_of_two a b read (array ds) thing is = cc

pub read_of_four : {A : Type 0} (a b c d : List ℕ) (read : Data → Option A) (whole : Data) (thing : A) →
    read_object (a ∷ b ∷ c ∷ d ∷ []) read whole ≡ Some thing →
    (x : Data) × (y : Data) × (z : Data) × (w : Data) × (whole ≡ four_members a b c d x y z w) ×
    (read (four_members a b c d x y z w) ≡ Some thing)
read_of_four a b c d read (object members) thing is =
    let tested = test_true (names_are (a ∷ b ∷ c ∷ d ∷ []) members) (read (object members)) thing is in
    let shape = four_shape a b c d members tested.0 in
    (shape.0, shape.1, shape.2, shape.3, shape.4, ap read (sym shape.4) ∙ tested.1)
read_of_four a b c d read null thing is = cc
read_of_four a b c d read (boolean _) thing is = cc
read_of_four a b c d read (number n) thing is = cc
read_of_four a b c d read (string s) thing is = cc
read_of_four a b c d read (array ds) thing is = cc

-- ---- an object with two members, each read by itself

module _ {X Y A : Type 0} {FitsX : X → Type 0} {FitsY : Y → Type 0} {write_x : X → Data} {write_y : Y → Data} {read_x : Data →
    Option X} {read_y : Data → Option Y}
    (a b : List ℕ) (make : X → Y → A) (part_x : A → X) (part_y : A → Y)
    (inverse_x : IsInverse FitsX write_x read_x) (inverse_y : IsInverse FitsY write_y read_y)
    (whole : (thing : A) → make (part_x thing) (part_y thing) ≡ thing)
    (left : (x : X) (y : Y) → part_x (make x y) ≡ x) (right : (x : X) (y : Y) → part_y (make x y) ≡ y)
    (first : (x y : Data) → get a (two_members a b x y) ≡ Some x) (second : (x y : Data) → get b (two_members a b x y) ≡ Some y)
    (named : (x y : Data) → has_names (a ∷ b ∷ []) (two_members a b x y) ≡ true) where
  abbrev write_two : A → Data
  write_two thing = two_members a b (write_x (part_x thing)) (write_y (part_y thing))

  abbrev members_of_two : Data → Option A
  members_of_two d = go_on (go_on (get a d) read_x) (λ x. go_on (go_on (get b d) read_y) (λ y. Some (make x y)))

  two_back : (thing : A) → FitsX (part_x thing) × FitsY (part_y thing) →
      read_object (a ∷ b ∷ []) members_of_two (write_two thing) ≡ Some thing
  two_back thing fits =
      rw (named (write_x (part_x thing)) (write_y (part_y thing)))
      (go_on_is _ _ (part_x thing) _ (go_on_is _ _ (write_x (part_x thing)) _ (first _ _) (inverse_x.back (part_x thing) fits.0))
      (go_on_is _ _ (part_y thing) _ (go_on_is _ _ (write_y (part_y thing)) _ (second _ _) (inverse_y.back (part_y thing) fits.1))
      (ap (λ one. Some one) (whole thing))))

  two_only : (d : Data) (thing : A) → read_object (a ∷ b ∷ []) members_of_two d ≡ Some thing →
      (write_two thing ≡ d) × (FitsX (part_x thing) × FitsY (part_y thing))
  two_only d thing is =
      let shape = read_of_two a b members_of_two d thing is in
      let x = shape.0 in
      let y = shape.1 in
      let r0 = go_on_some (go_on (get a (two_members a b x y)) read_x) (λ one. go_on (go_on (get b (two_members a b x y)) read_y)
      (λ other. Some (make one other))) thing shape.3 in
      let e0 = inverse_x.only x r0.0 (at_some x read_x r0.0 (ap (λ found. go_on found read_x) (sym (first x y)) ∙ r0.1)) in
      let r1 = go_on_some (go_on (get b (two_members a b x y)) read_y) (λ other. Some (make r0.0 other)) thing r0.2 in
      let e1 = inverse_y.only y r1.0 (at_some y read_y r1.0 (ap (λ found. go_on found read_y) (sym (second x y)) ∙ r1.1)) in
      let same : make r0.0 r1.0 ≡ thing = some_is (make r0.0 r1.0) thing r1.2 in
      let is_x : r0.0 ≡ part_x thing = sym (left r0.0 r1.0) ∙ ap part_x same in
      let is_y : r1.0 ≡ part_y thing = sym (right r0.0 r1.0) ∙ ap part_y same in (
        ap (λ one. two_members a b one (write_y (part_y thing))) (ap write_x (sym is_x) ∙ e0.0)
            ∙ ap (λ one. two_members a b x one) (ap write_y (sym is_y) ∙ e1.0) ∙ sym shape.2,
        (subst FitsX is_x e0.1, subst FitsY is_y e1.1),
      )

  pub two_inverse : IsInverse (λ thing. FitsX (part_x thing) × FitsY (part_y thing)) write_two (read_object (a ∷ b ∷ []) members_of_two)
  two_inverse = record { back = two_back; only = two_only }
