-- Readers that read a language exactly: what they get is in it, all of it is read, and where they stop what stands before can be
-- completed and, unless the text ends there, with the next byte cannot.
use Rattle.std.proofs.Common.{◌≡◌, ◌==◌, if◌then◌else◌, eq-eqb, arith, ℕ, Bool, true, false, List, [], ◌∷◌, ◌++◌, ◌⊎◌, inl, inr, Option}
use Rattle.std.proofs.Common.{refl, sym, ap, ◌∙◌, subst, append_assoc}
use Rattle.std.proofs.lemmas.List.{append-nil}
use Rattle.std.proofs.lemmas.Bool.Decides.{nat_tests}
use Rattle.sym_text.specs.Outcome.{Outcome, Got, Stopped, Reader, pass, go_on, ◌>>=◌, give, never, only_if, first, by_first, literal}

pub same_byte : (a b : ℕ) → (a == b) ≡ true → a ≡ b
same_byte a b is = grind (arith, nat_tests)

-- the texts of a value
abbrev pub Language : Type 0 → Type 1
Language A = A → List ℕ → Type 0

-- what may stand behind the texts of a value
abbrev pub Ends : Type 0 → Type 1
Ends A = A → Option ℕ → Type 0

-- some text of the language begins with these bytes
pub record Begun {A : Type 0} (L : Language A) (front : List ℕ) : Type 0 where
  pub value : A
  pub piece : List ℕ
  pub more : List ℕ
  pub is : L value piece
  pub text : piece ≡ front ++ more

-- no text of the language, with what may stand behind it, begins with these bytes
abbrev pub NoneBegins : {A : Type 0} → Language A → Ends A → List ℕ → Type 0
NoneBegins {A} L ends front = (value : A) (piece beyond behind : List ℕ) → L value piece → ends value (first beyond)
    → piece ++ beyond ≡ front ++ behind → ⊥

pub record IsGot {A : Type 0} (L : Language A) (ends : Ends A) (text : List ℕ) (value : A) (rest : List ℕ) : Type 0 where
  pub piece : List ℕ
  pub is : L value piece
  pub cut : text ≡ piece ++ rest
  pub ends_so : ends value (first rest)

pub record IsStopped {A : Type 0} (L : Language A) (ends : Ends A) (text rest : List ℕ) : Type 0 where
  pub front : List ℕ
  pub cut : text ≡ front ++ rest
  pub begun : (front ≡ []) ⊎ Begun L front
  pub none : (byte : ℕ) (others : List ℕ) → rest ≡ byte ∷ others → NoneBegins L ends (front ++ (byte ∷ []))

abbrev pub Answers : {A : Type 0} → Language A → Ends A → List ℕ → Outcome A → Type 0
Answers L ends text (Got value rest) = IsGot L ends text value rest
Answers L ends text (Stopped rest) = IsStopped L ends text rest

-- the reader reads the language, at texts that begin so
pub record Reads {A : Type 0} (from : Option ℕ → Type 0) (L : Language A) (ends : Ends A) (reader : Reader A) : Type 0 where
  pub answers : (text : List ℕ) → from (first text) → Answers L ends text (reader text)
  pub complete : (value : A) (piece beyond : List ℕ) → L value piece → ends value (first beyond)
      → reader (piece ++ beyond) ≡ Got value beyond

-- nothing is asked of the byte
abbrev pub Anything : Option ℕ → Type 0
Anything byte = Unit {0}

-- nothing is asked of what stands behind
abbrev pub AnyEnd : {A : Type 0} → A → Option ℕ → Type 0
AnyEnd value byte = Unit {0}

-- one language and then another
pub record InRow {A B : Type 0} (one : Language A) (two : A → Language B) (value : B) (text : List ℕ) : Type 0 where
  pub at : A
  pub left : List ℕ
  pub right : List ℕ
  pub is_left : one at left
  pub is_right : two at value right
  pub cut : text ≡ left ++ right

same_first : (front : List ℕ) (byte : ℕ) (others behind rest : List ℕ) → rest ≡ front ++ (byte ∷ others)
    → first rest ≡ first (front ++ (byte ∷ behind))
same_first [] byte others behind rest is = ap first is
same_first (b ∷ front) byte others behind rest is = ap first is

byte_more : (front : List ℕ) (byte : ℕ) (behind : List ℕ) → front ++ (byte ∷ []) ++ behind ≡ front ++ (byte ∷ behind)
byte_more front byte behind = append_assoc front (byte ∷ []) behind

got_value : {A : Type 0} (a b : A) (s t : List ℕ) → Got a s ≡ Got b t → a ≡ b
got_value a b s t e = cc

got_rest : {A : Type 0} (a b : A) (s t : List ℕ) → Got a s ≡ Got b t → s ≡ t
got_rest a b s t e = cc

-- one after another
pub bind-Reads : {A B : Type 0} (from : Option ℕ → Type 0) (one : Language A) (ends_one : Ends A) (two : A → Language B) (ends : Ends B)
    (p : Reader A) (q : A → Reader B)
    → Reads from one ends_one p
    → ((a : A) (x : List ℕ) → one a x → Reads (ends_one a) (two a) ends (q a))
    → ((a : A) (x y : List ℕ) (b : B) (beyond : List ℕ) → one a x → two a b y → ends b (first beyond) → ends_one a (first (y ++ beyond)))
    → ((a : A) (x : List ℕ) → one a x → (b : B) × (y : List ℕ) × two a b y)
    → Reads from (InRow one two) ends (p >>= q)
unfolding go_on
bind-Reads {A} {B} from one ends_one two ends p q reads_p reads_q starts some = record {
  answers = λ text begins. from_first text (p text) refl (reads_p.answers text begins);
  complete = λ b piece beyond is so.
      let whole : piece ++ beyond ≡ is.left ++ (is.right ++ beyond) = ap (λ t. t ++ beyond) is.cut ∙ append_assoc is.left is.right beyond in
      let got : p (piece ++ beyond) ≡ Got is.at (is.right ++ beyond) = ap p whole
      ∙ reads_p.complete is.at is.left (is.right ++ beyond) is.is_left
      (starts is.at is.left is.right b beyond is.is_left is.is_right so) in
      ap (λ o. pass o q) got ∙ (reads_q is.at is.left is.is_left).complete b is.right beyond is.is_right so;
}
  where
    stopped_first : (text rest : List ℕ) → IsStopped one ends_one text rest → IsStopped (InRow one two) ends text rest
    stopped_first text rest s = record {
      front = s.front;
      cut = s.cut;
      begun = elim s.begun [
        | inl none ↦ inl none
        | inr b ↦
            let (c, y, is_y) = some b.value b.piece b.is in
            inr (record {
              value = c;
              piece = b.piece ++ y;
              more = b.more ++ y;
              is = record { at = b.value; left = b.piece; right = y; is_left = b.is; is_right = is_y; cut = refl };
              text = ap (λ t. t ++ y) b.text ∙ append_assoc s.front b.more y;
            })
      ];
      none =
          λ byte others left. λ value piece beyond behind is so same. s.none byte others left is.at is.left
          (is.right ++ beyond) behind is.is_left (starts is.at is.left is.right value beyond is.is_left is.is_right so)
          (sym (append_assoc is.left is.right beyond) ∙ ap (λ t. t ++ beyond) (sym is.cut) ∙ same);
    }

    stopped_second : (text : List ℕ) (a : A) (middle rest : List ℕ) → IsGot one ends_one text a middle → IsStopped (two a) ends middle rest
        → IsStopped (InRow one two) ends text rest
    stopped_second text a middle rest g s = record {
      front = g.piece ++ s.front;
      cut = g.cut ∙ ap (λ t. g.piece ++ t) s.cut ∙ sym (append_assoc g.piece s.front rest);
      begun = inr (elim s.begun [
        | inl none ↦
            (let (c, y, is_y) = some a g.piece g.is in record {
              value = c;
              piece = g.piece ++ y;
              more = y;
              is = record { at = a; left = g.piece; right = y; is_left = g.is; is_right = is_y; cut = refl };
              text = ap (λ t. t ++ y) (sym (append-nil g.piece) ∙ ap (λ t. g.piece ++ t) (sym none));
            })
        | inr b ↦ record {
          value = b.value;
          piece = g.piece ++ b.piece;
          more = b.more;
          is = record { at = a; left = g.piece; right = b.piece; is_left = g.is; is_right = b.is; cut = refl };
          text = ap (λ t. g.piece ++ t) b.text ∙ sym (append_assoc g.piece s.front b.more);
        }
      ]);
      none = λ byte others left. λ value piece beyond behind is so same.
          let there : p (piece ++ beyond)
          ≡ Got is.at (is.right ++ beyond) = ap p (ap (λ t. t ++ beyond) is.cut ∙ append_assoc is.left is.right beyond)
          ∙ reads_p.complete is.at is.left (is.right ++ beyond) is.is_left
          (starts is.at is.left is.right value beyond is.is_left is.is_right so) in
          let ends_here : ends_one a (first (s.front ++ (byte ∷ behind))) =
          subst (ends_one a) (same_first s.front byte others behind middle (s.cut ∙ ap (λ t. s.front ++ t) left)) g.ends_so in
          let whole : piece ++ beyond ≡ g.piece ++ (s.front ++ (byte ∷ behind)) =
          same ∙ byte_more (g.piece ++ s.front) byte behind ∙ append_assoc g.piece s.front (byte ∷ behind) in
          let here : p (piece ++ beyond) ≡ Got a (s.front ++ (byte ∷ behind)) =
          ap p whole ∙ reads_p.complete a g.piece (s.front ++ (byte ∷ behind)) g.is ends_here in
          let alike : Got is.at (is.right ++ beyond) ≡ Got a (s.front ++ (byte ∷ behind)) = sym there ∙ here in
          let is_two : two a value is.right = subst (λ (v : A). two v value is.right) (got_value is.at a _ _ alike) is.is_right in
          s.none byte others left value is.right beyond behind is_two so (got_rest is.at a _ _ alike ∙ sym (byte_more s.front byte behind));
    }

    from_second : (text : List ℕ) (a : A) (middle : List ℕ) → IsGot one ends_one text a middle → (o : Outcome B)
        → Answers (two a) ends middle o → Answers (InRow one two) ends text o
    from_second text a middle g (Got b rest) h = record {
      piece = g.piece ++ h.piece;
      is = record { at = a; left = g.piece; right = h.piece; is_left = g.is; is_right = h.is; cut = refl };
      cut = g.cut ∙ ap (λ t. g.piece ++ t) h.cut ∙ sym (append_assoc g.piece h.piece rest);
      ends_so = h.ends_so;
    }
    from_second text a middle g (Stopped rest) s = stopped_second text a middle rest g s

    from_first : (text : List ℕ) (o : Outcome A) → p text ≡ o → Answers one ends_one text o → Answers (InRow one two) ends text (pass o q)
    from_first text (Got a middle) is g = from_second text a middle g (q a middle) ((reads_q a g.piece g.is).answers middle g.ends_so)
    from_first text (Stopped rest) is s = stopped_first text rest s

-- a value of which nothing is written
pub give-Reads : {A : Type 0} (value : A) (ends : Ends A) → Reads (ends value) (λ one text. (one ≡ value) × (text ≡ [])) ends (give value)
give-Reads {A} value ends = record {
  answers = λ text so. record { piece = []; is = (refl, refl); cut = refl; ends_so = so };
  complete = λ one piece beyond is so. rw (is.0, is.1) refl;
}

-- nothing may come
pub never-Reads : {A : Type 0} (from : Option ℕ → Type 0) (ends : Ends A) → Reads from (λ one text. ⊥) ends never
never-Reads {A} from ends = record {
  answers =
      λ text so. record { front = []; cut = refl; begun = inl refl; none = λ byte others left. λ value piece beyond behind is. absurd is };
  complete = λ one piece beyond is. absurd is;
}

pub only_if-Reads : {A : Type 0} (test : Bool) (from : Option ℕ → Type 0) (L : Language A) (ends : Ends A) (reader : Reader A)
    → (test ≡ true → Reads from L ends reader) → Reads from (λ one text. (test ≡ true) × L one text) ends (only_if test reader)
only_if-Reads {A} true from L ends reader reads = record {
  answers = λ text so. through text (reader text) ((reads refl).answers text so);
  complete = λ one piece beyond is so. (reads refl).complete one piece beyond is.1 so;
}
  where
    through : (text : List ℕ) (o : Outcome A) → Answers L ends text o → Answers (λ one t. (true ≡ true) × L one t) ends text o
    through text (Got value rest) g = record { piece = g.piece; is = (refl, g.is); cut = g.cut; ends_so = g.ends_so }
    through text (Stopped rest) s = record {
      front = s.front;
      cut = s.cut;
      begun =
          elim s.begun [
            | inl none ↦ inl none
            | inr b ↦ inr
                (record { value = b.value; piece = b.piece; more = b.more; is = (refl, b.is); text = b.text })
          ];
      none = λ byte others left. λ value piece beyond behind is. s.none byte others left value piece beyond behind is.1;
    }
only_if-Reads {A} false from L ends reader reads = record {
  answers =
      λ text so. record {
        front = [];
        cut = refl;
        begun = inl refl;
        none = λ byte others left. λ value piece beyond behind is. absurd (let no : false ≡ true = is.0 in cc);
      };
  complete = λ one piece beyond is. absurd (let no : false ≡ true = is.0 in cc);
}

-- the same language in other words
pub same-Reads : {A : Type 0} (from : Option ℕ → Type 0) (L M : Language A) (ends : Ends A) (reader : Reader A)
    → ((one : A) (text : List ℕ) → L one text → M one text) → ((one : A) (text : List ℕ) → M one text → L one text)
    → Reads from L ends reader → Reads from M ends reader
same-Reads {A} from L M ends reader to back reads = record {
  answers = λ text so. through text (reader text) (reads.answers text so);
  complete = λ one piece beyond is so. reads.complete one piece beyond (back one piece is) so;
}
  where
    through : (text : List ℕ) (o : Outcome A) → Answers L ends text o → Answers M ends text o
    through text (Got value rest) g = record { piece = g.piece; is = to value g.piece g.is; cut = g.cut; ends_so = g.ends_so }
    through text (Stopped rest) s = record {
      front = s.front;
      cut = s.cut;
      begun =
          elim s.begun [
            | inl none ↦ inl none
            | inr b ↦ inr
                (record { value = b.value; piece = b.piece; more = b.more; is = to b.value b.piece b.is; text = b.text })
          ];
      none = λ byte others left. λ value piece beyond behind is. s.none byte others left value piece beyond behind (back value piece is);
    }

pub from-Reads : {A : Type 0} (from other : Option ℕ → Type 0) (L : Language A) (ends : Ends A) (reader : Reader A)
    → ((byte : Option ℕ) → other byte → from byte) → Reads from L ends reader → Reads other L ends reader
from-Reads from other L ends reader fits reads =
    record { answers = λ text so. reads.answers text (fits (first text) so); complete = reads.complete }

-- by the kind of the first byte
pub by_first-Reads : {A Kind : Type 0} (from : Option ℕ → Type 0) (kind : Option ℕ → Kind) (L : Kind → Language A) (ends : Ends A)
    (reader : Kind → Reader A)
    → ((k : Kind) → Reads (λ byte. from byte × (kind byte ≡ k)) (L k) ends (reader k))
    → ((k : Kind) (one : A) (piece beyond : List ℕ) → L k one piece → ends one (first beyond) → kind (first (piece ++ beyond)) ≡ k)
    → Reads from (λ one text. (k : Kind) × L k one text) ends (by_first kind reader)
unfolding by_first
by_first-Reads {A} {Kind} from kind L ends reader reads kinds = record {
  answers =
      λ text so. through text (kind (first text)) refl (reader (kind (first text)) text)
      ((reads (kind (first text))).answers text (so, refl));
  complete = λ one piece beyond is so.
      ap (λ k. reader k (piece ++ beyond)) (kinds is.0 one piece beyond is.1 so) ∙ (reads is.0).complete one piece beyond is.1 so;
}
  where
    through : (text : List ℕ) (k : Kind) → kind (first text) ≡ k → (o : Outcome A) → Answers (L k) ends text o
        → Answers (λ one t. (k : Kind) × L k one t) ends text o
    through text k same (Got value rest) g = record { piece = g.piece; is = (k, g.is); cut = g.cut; ends_so = g.ends_so }
    through text k same (Stopped rest) s = record {
      front = s.front;
      cut = s.cut;
      begun =
          elim s.begun [
            | inl none ↦ inl none
            | inr b ↦ inr
                (record { value = b.value; piece = b.piece; more = b.more; is = (k, b.is); text = b.text })
          ];
      none = λ byte others left. λ value piece beyond behind is so alike.
          let begins : first text
          ≡ first (piece ++ beyond) = same_first s.front byte others behind text (s.cut ∙ ap (λ t. s.front ++ t) left)
          ∙ ap first (sym (byte_more s.front byte behind) ∙ sym alike) in
          let one_kind : is.0 ≡ k = sym (kinds is.0 value piece beyond is.1 so) ∙ ap kind (sym begins) ∙ same in
          s.none byte others left value piece beyond behind (subst (λ (j : Kind). L j value piece) one_kind is.1) so alike;
    }

-- exactly these bytes
pub literal-Reads : (bytes : List ℕ) → Reads Anything (λ one text. text ≡ bytes) AnyEnd (literal bytes)
literal-Reads bytes = record {
  answers = λ text so. literal_answers bytes text;
  complete = λ one piece beyond is so. rw is (literal_read bytes beyond);
}
  where
    literal_read : (bytes beyond : List ℕ) → literal bytes (bytes ++ beyond) ≡ Got tt beyond
    literal_read [] beyond = refl
    literal_read (byte ∷ bytes) beyond = rw (eq-eqb byte byte refl) (literal_read bytes beyond)

    one_more : (byte : ℕ) (bytes text : List ℕ) (o : Outcome (Unit {0})) → Answers (λ one t. t ≡ bytes) AnyEnd text o
        → Answers (λ one t. t ≡ byte ∷ bytes) AnyEnd (byte ∷ text) o
    one_more byte bytes text (Got value rest) g =
        record { piece = byte ∷ g.piece; is = ap (λ t. byte ∷ t) g.is; cut = ap (λ t. byte ∷ t) g.cut; ends_so = tt }
    one_more byte bytes text (Stopped rest) s = record {
      front = byte ∷ s.front;
      cut = ap (λ t. byte ∷ t) s.cut;
      begun = inr (elim s.begun [
        | inl none ↦ record { value = tt; piece = byte ∷ bytes; more = bytes; is = refl; text = ap (λ t. byte ∷ (t ++ bytes)) (sym none) }
        | inr b ↦ record {
          value = tt;
          piece = byte ∷ b.piece;
          more = b.more;
          is = ap (λ t. byte ∷ t) b.is;
          text = ap (λ t. byte ∷ t) b.text;
        }
      ]);
      none = λ other others left. λ value piece beyond behind is so same.
          let whole : byte ∷ (bytes ++ beyond) ≡ byte ∷ ((s.front ++ (other ∷ [])) ++ behind) = ap (λ t. t ++ beyond) (sym is) ∙ same in
          let tails : bytes ++ beyond ≡ (s.front ++ (other ∷ [])) ++ behind = cc in
          s.none other others left tt bytes beyond behind refl tt tails;
    }

    by_test : (same : Bool) (byte : ℕ) (bytes : List ℕ) (other : ℕ) (text : List ℕ) → (other == byte) ≡ same
        → Answers (λ one t. t ≡ bytes) AnyEnd text (literal bytes text)
        → Answers (λ one t. t ≡ byte ∷ bytes) AnyEnd (other ∷ text) (if same then literal bytes text else Stopped (other ∷ text))
    by_test true byte bytes other text is rest =
        let alike : other ≡ byte = same_byte other byte is in
        subst (λ (b : ℕ). Answers (λ one t. t ≡ byte ∷ bytes) AnyEnd (b ∷ text) (literal bytes text)) (sym alike)
        (one_more byte bytes text (literal bytes text) rest)
    by_test false byte bytes other text is rest = record {
      front = [];
      cut = refl;
      begun = inl refl;
      none = λ first_byte others left. λ value piece beyond behind is_piece so same.
          let whole : byte ∷ (bytes ++ beyond) ≡ first_byte ∷ behind = ap (λ t. t ++ beyond) (sym is_piece) ∙ same in
          let alike : other ≡ byte = cc in
          let yes : (other == byte) ≡ true = eq-eqb other byte alike in
          absurd (let no : true ≡ false = sym yes ∙ is in cc);
    }

    literal_answers : (bytes text : List ℕ) → Answers (λ one t. t ≡ bytes) AnyEnd text (literal bytes text)
    literal_answers [] text = record { piece = []; is = refl; cut = refl; ends_so = tt }
    literal_answers (byte ∷ bytes) [] =
        record {
          front = [];
          cut = refl;
          begun = inl refl;
          none = λ first_byte others left. absurd (let no : [] ≡ first_byte ∷ others = left in cc);
        }
    literal_answers (byte ∷ bytes) (other ∷ text) = by_test (other == byte) byte bytes other text refl (literal_answers bytes text)

-- these bytes, and then what the language has
abbrev pub Behind : {A : Type 0} → List ℕ → Language A → Language A
Behind word L value text = (rest : List ℕ) × (text ≡ word ++ rest) × L value rest

pub behind-Reads : {A : Type 0} (from : Option ℕ → Type 0) (word : List ℕ) (L : Language A) (ends : Ends A) (q : Reader A)
    → Reads Anything L ends q → ((a : A) × (text : List ℕ) × L a text) → Reads from (Behind word L) ends (literal word >>= λ mark. q)
behind-Reads {A} from word L ends q reads some =
    same-Reads from (InRow (λ one text. text ≡ word) (λ mark. L)) (Behind word L) ends (literal word >>= λ mark. q)
    (λ one text is. (is.right, is.cut ∙ ap (λ t. t ++ is.right) is.is_left, is.is_right))
    (λ one text (rest, cut, is). record { at = tt; left = word; right = rest; is_left = refl; is_right = is; cut = cut })
    (bind-Reads from (λ one text. text ≡ word) AnyEnd (λ mark. L) ends (literal word) (λ mark. q)
    (from-Reads Anything from (λ one text. text ≡ word) AnyEnd (literal word) (λ byte so. tt) (literal-Reads word))
    (λ mark x is. reads)
    (λ mark x y b beyond is is_two so. tt)
    (λ mark x is. some))

-- the values of a language under a function
abbrev pub Under : {A B : Type 0} → (A → B) → Language A → Language B
Under {A} f L value text = (a : A) × (value ≡ f a) × L a text

pub under-Reads : {A B : Type 0} (from : Option ℕ → Type 0) (f : A → B) (L : Language A) (ends_one : Ends A) (ends : Ends B) (p : Reader A)
    → ((a : A) (byte : Option ℕ) → ends_one a byte → ends (f a) byte) → ((a : A) (byte : Option ℕ) → ends (f a) byte → ends_one a byte)
    → Reads from L ends_one p → Reads from (Under f L) ends (p >>= λ a. give (f a))
under-Reads {A} {B} from f L ends_one ends p to back reads =
    same-Reads from (InRow L (λ a value text. (value ≡ f a) × (text ≡ []))) (Under f L) ends (p >>= λ a. give (f a))
    (λ one text is.
    (is.at, is.is_right.0, subst (L is.at) (sym (is.cut ∙ ap (λ t. is.left ++ t) is.is_right.1 ∙ append-nil is.left)) is.is_left))
    (λ one text (a, value, is).
    record { at = a; left = text; right = []; is_left = is; is_right = (value, refl); cut = sym (append-nil text) })
    (bind-Reads from L ends_one (λ a value text. (value ≡ f a) × (text ≡ [])) ends p (λ a. give (f a)) reads
    (λ a x is. from-Reads (ends (f a)) (ends_one a) (λ value text. (value ≡ f a) × (text ≡ [])) ends (give (f a)) (to a)
    (give-Reads (f a) ends))
    (λ a x y b beyond is is_two so. rw is_two.1 (back a (first beyond) (subst (λ (v : B). ends v (first beyond)) is_two.0 so)))
    (λ a x is. (f a, [], (refl, refl))))
