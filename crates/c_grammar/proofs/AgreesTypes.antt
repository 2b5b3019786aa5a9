-- The readers agree with the grammar's forms: types, declarators, fields, parameters.
use Rattle.std.proofs.Common.{◌≡◌, ℕ, zero, suc, Bool, true, false, cond, List, [], ◌∷◌, ◌++◌, length, refl, sym, ◌∙◌, subst}
use Rattle.std.proofs.lemmas.Bool.{eqb-true}
use Rattle.std.specs.Prelude.{Option, Some, None, Ok}
use Rattle.grammar_laws.specs.Form.{Form, Word as AWord, Both, Many, is_in, begins_in, starts}
use Rattle.grammar_laws.specs.Reading.{Read, Done, go_on, repeat, reads}
use Rattle.c_grammar.specs.Classes
use Rattle.c_grammar.specs.declared.class.Class.{Class}
use Rattle.c_grammar.specs.declared.class.Class.TheVariants as class
use Rattle.c_grammar.specs.Classes.{number_of, numbered}
use Rattle.c_grammar.specs.Words.{Word, classes}
use Rattle.c_grammar.specs.Forms
use Rattle.c_grammar.specs.Trees.{Name, Specifier, Declarator, Param, Params}
use Rattle.c_grammar.specs.Spelling.{Rule, word, word_at, name, each, maybe, specifier, stars, declarator, fields, struct_body, is_void}
use Rattle.c_grammar.specs.Spelling.{is_void_alone, param, params}
use Rattle.c_grammar.specs.Readers.{Got, ◌>>=◌, class_at, is_class, read_name, read_more, read_each, read_maybe, specifier_by}
use Rattle.c_grammar.specs.Readers.{read_specifier, begins_specifier, read_stars, read_declarator, read_fields, read_struct_body}
use Rattle.c_grammar.specs.Readers.{read_param, place_of_specifier, listed, read_params}
use Rattle.c_grammar.proofs.Agreement.{AreProper, IsBehind, itself, one_behind, further, proper_behind, AgreesAs, ReadsAs, agree_behind}
use Rattle.c_grammar.proofs.Agreement.{agree_map, test_class, test_classes, name_agrees, AgreesBy, by_class, wrong_agrees, each_agrees}
use Rattle.c_grammar.proofs.Agreement.{more_agrees, maybe_agrees, step, over, at_word, at_last}
use Rattle.c_grammar.proofs.Parts.{length-classes}

specifier_by_agrees : AgreesBy (λ (x : Specifier × List Word). x.1) (λ words x. specifier x.0 words x.1) specifier_by Forms.specifier_form
specifier_by_agrees class.Int first others e proper = (refl, (e, refl, refl), one_behind first others)
specifier_by_agrees class.Void first others e proper = (refl, (e, refl, refl), one_behind first others)
specifier_by_agrees class.Struct first others e proper =
    agree_map (λ (x : Name × List Word). x.1) (λ x. name x.0 others x.1) (λ (y : Specifier × List Word). y.1)
    (λ y. specifier y.0 (first ∷ others) y.1) (first ∷ others)
    (λ x. (Specifier.Struct first.place x.0, x.1)) (λ x. refl) (λ x h. (others, (e, refl, refl), h))
    (read_name others) (reads (AWord 1) (classes others))
    (agree_behind (λ (x : Name × List Word). x.1) (λ x. name x.0 others x.1) (one_behind first others) (read_name others)
    (reads (AWord 1) (classes others)) (name_agrees others proper))
specifier_by_agrees class.Name first others e proper = (refl, (e, refl, refl, refl), one_behind first others)
specifier_by_agrees _ first others e proper =
    wrong_agrees (λ (x : Specifier × List Word). x.1) (λ x. specifier x.0 (first ∷ others) x.1) first others _ e

pub specifier_agrees : ReadsAs specifier read_specifier Forms.specifier_form
unfolding read_specifier
specifier_agrees words proper =
    by_class (λ (x : Specifier × List Word). x.1) (λ w x. specifier x.0 w x.1) specifier_by Forms.specifier_form
    (refl, itself []) specifier_by_agrees words proper

specifier_starts : (c : Class) → begins_specifier c ≡ is_in (number_of c) (starts Forms.specifier_form)
specifier_starts class.Int = refl
specifier_starts _ = refl

pub begins_specifier_same : (words : List Word) → AreProper words
    → begins_specifier (class_at words) ≡ begins_in (starts Forms.specifier_form) (classes words)
begins_specifier_same words proper = test_classes begins_specifier (starts Forms.specifier_form) specifier_starts refl words proper

-- stars and the words behind them
abbrev StarsRead : ℕ × List Word → List Word → Read → Type 0
StarsRead got from read = (read ≡ Done (classes got.1)) × stars got.0 from got.1 × IsBehind got.1 from

one_star : (first : Word) (others : List Word) (got : ℕ × List Word) (more : List ℕ → Read) → first.class ≡ Classes.STAR
    → StarsRead got others (more (classes others))
    → StarsRead (suc got.0, got.1) (first ∷ others) (go_on (reads (AWord Classes.STAR) (first.class ∷ classes others)) more)
one_star first others got more e h = (
  subst (λ n. go_on (reads (AWord Classes.STAR) (n ∷ classes others)) more ≡ Done (classes got.1)) (sym e) h.0,
  (others, (e, refl), h.1),
  further h.2 (one_behind first others),
)

-- stars are read, however many there are
stars_read : (times : ℕ) (words : List Word) → AreProper words
    → StarsRead (read_stars times words) words (repeat times (reads (AWord Classes.STAR)) (Classes.STAR ∷ []) (classes words))
stars_read zero words proper = (refl, refl, itself words)
stars_read (suc times) [] proper = (refl, refl, itself [])
stars_read (suc times) (first ∷ others) proper =
    by_test (is_class class.Star (numbered first.class)) refl (begins_in (Classes.STAR ∷ []) (first.class ∷ classes others))
    (test_class class.Star (first ∷ others) proper refl) (stars_read times others proper.1)
  where
    by_test : (b : Bool) → is_class class.Star (numbered first.class) ≡ b → (c : Bool) → b ≡ c
        → StarsRead (read_stars times others) others (repeat times (reads (AWord Classes.STAR)) (Classes.STAR ∷ []) (classes others))
        → StarsRead (cond b (suc (read_stars times others).0, (read_stars times others).1) (0, first ∷ others)) (first ∷ others)
        (cond c (go_on (reads (AWord Classes.STAR) (first.class ∷ classes others))
        (λ rest. repeat times (reads (AWord Classes.STAR)) (Classes.STAR ∷ []) rest)) (Done (first.class ∷ classes others)))
    by_test true is false e h = absurd (cc)
    by_test false is true e h = absurd (cc)
    by_test false is false e h = (refl, refl, itself (first ∷ others))
    by_test true is true e h =
        one_star first others (read_stars times others) (λ rest. repeat times (reads (AWord Classes.STAR)) (Classes.STAR ∷ []) rest)
        (sym proper.0 ∙ sym (eqb-true (number_of class.Star) (number_of (numbered first.class)) is)) h

pub stars_agree : (words : List Word) → AreProper words
    → StarsRead (read_stars (length words) words) words (reads Forms.stars_form (classes words))
stars_agree words proper =
    subst (λ n. StarsRead (read_stars n words) words (reads Forms.stars_form (classes words))) (length-classes words)
    (stars_read (length (classes words)) words proper)

pub declarator_agrees : ReadsAs declarator read_declarator Forms.declarator_form
unfolding read_declarator
declarator_agrees words proper =
    by_stars (read_stars (length words) words) (reads Forms.stars_form (classes words)) (stars_agree words proper)
  where
    by_stars : (got : ℕ × List Word) (read : Read) → StarsRead got words read
        → AgreesAs declarator words (read_name got.1 >>= (λ n. Ok (record { stars = got.0; name = n.0 }, n.1)))
        (go_on read (λ rest. reads (AWord 1) rest))
    by_stars got read (e, h, b) =
        subst (λ r. AgreesAs declarator words (read_name got.1 >>= (λ n. Ok (record { stars = got.0; name = n.0 }, n.1)))
        (go_on r (λ rest. reads (AWord 1) rest))) (sym e)
        (agree_map (λ (x : Name × List Word). x.1) (λ x. name x.0 got.1 x.1) (λ (y : Declarator × List Word). y.1)
        (λ y. declarator y.0 words y.1) words
        (λ x. (record { stars = got.0; name = x.0 }, x.1)) (λ x. refl) (λ x k. (got.1, h, k)) (read_name got.1)
        (reads (AWord 1) (classes got.1))
        (agree_behind (λ (x : Name × List Word). x.1) (λ x. name x.0 got.1 x.1) b (read_name got.1) (reads (AWord 1) (classes got.1))
        (name_agrees got.1 (proper_behind b proper))))

-- `{ , rule }`
abbrev pub commas : {A : Type 0} → (A → Rule) → List A → Rule
commas rule all = each (λ a from to. (mid : List Word) × word 26 from mid × rule a mid to) all

-- a list behind commas
abbrev pub read_commas : {A : Type 0} → (List Word → Got A) → List Word → Got (List A)
read_commas reader words = read_more (length words) reader words

pub commas_agree : {A : Type 0} (rule : A → Rule) (reader : List Word → Got A) (form : Form) → ReadsAs rule reader form
    → ReadsAs (commas rule) (read_commas reader) (Forms.more_of form)
commas_agree rule reader form agrees words proper = more_agrees rule reader form agrees words proper

pub fields_agrees : ReadsAs fields read_fields Forms.fields_form
unfolding read_fields
fields_agrees words proper =
    step fields words proper specifier read_specifier Forms.specifier_form specifier_agrees words (itself words) _ _ (λ s sh sb.
    step fields words proper declarator read_declarator Forms.declarator_form declarator_agrees s.1 sb _ _ (λ d dh db.
    step fields words proper (commas declarator) (read_commas read_declarator) (Forms.more_of Forms.declarator_form)
    (commas_agree declarator read_declarator Forms.declarator_form declarator_agrees) d.1 db _ _ (λ o oh ob.
    at_word fields words proper class.Semicolon refl o.1 ob _ (λ to k. (s.1, sh, (d.1, dh, (o.1, oh, k)))))))

-- the fields of a structure
each_fields : ReadsAs (each fields) (λ words. read_each (length words) begins_specifier read_fields words) (Many Forms.fields_form)
each_fields words proper =
    each_agrees fields read_fields Forms.fields_form begins_specifier begins_specifier_same (λ w p e. fields_agrees w p) words proper

pub struct_body_agrees : ReadsAs struct_body read_struct_body Forms.struct_body_form
unfolding read_struct_body
struct_body_agrees words proper =
    over struct_body words proper class.OpenBrace refl words (itself words) _ _ (λ a h b.
    step struct_body words proper (each fields) (λ w. read_each (length w) begins_specifier read_fields w)
    (Many Forms.fields_form) each_fields a b _ _ (λ l lh lb.
    at_word struct_body words proper class.CloseBrace refl l.1 lb _ (λ to k. (a, h, (l.1, lh, k)))))

maybe_name : ReadsAs (maybe name) (read_maybe (is_class class.Name) read_name) (Forms.optional (AWord 1))
maybe_name words proper =
    maybe_agrees (is_class class.Name) name read_name (AWord 1) (λ w p. test_class class.Name w p refl)
    (λ w p e. name_agrees w p) words proper

-- a parameter behind its type
param_behind : (words : List Word) → AreProper words → (s : Specifier × List Word) → specifier s.0 words s.1 → IsBehind s.1 words
    → (got : ℕ × List Word) (read : Read) → StarsRead got s.1 read
    → AgreesAs param words
    (read_maybe (is_class class.Name) read_name got.1 >>= (λ n. Ok (record { specifier = s.0; stars = got.0; name = n.0 }, n.1)))
    (go_on read (λ rest. reads (Forms.optional (AWord 1)) rest))
param_behind words proper s sh sb got read (e, h, b) =
    subst (λ r. AgreesAs param words
    (read_maybe (is_class class.Name) read_name got.1 >>= (λ n. Ok (record { specifier = s.0; stars = got.0; name = n.0 }, n.1)))
    (go_on r (λ rest. reads (Forms.optional (AWord 1)) rest))) (sym e)
    (at_last param words proper (maybe name) (read_maybe (is_class class.Name) read_name) (Forms.optional (AWord 1)) maybe_name got.1
    (further b sb)
    (λ n. record { specifier = s.0; stars = got.0; name = n }) (λ n to k. (s.1, sh, (got.1, h, k))))

pub param_agrees : ReadsAs param read_param Forms.param_form
unfolding read_param
param_agrees words proper =
    step param words proper specifier read_specifier Forms.specifier_form specifier_agrees words (itself words) _ _ (λ s sh sb.
    param_behind words proper s sh sb (read_stars (length s.1) s.1) (reads Forms.stars_form (classes s.1))
    (stars_agree s.1 (proper_behind sb proper)))

-- a parameter `void` that stands alone
void_place : (s : Specifier) (count : ℕ) (n : Option Name) → is_void s count n ≡ true → (from a b to : List Word) → specifier s from a
    → stars count a b → maybe name n b to
    → word_at (place_of_specifier s) Classes.VOID from to
void_place (Specifier.Void place) zero None e from a b to h k l = subst (λ w. word_at place Classes.VOID from w) (k ∙ l) h
void_place (Specifier.Void place) zero (Some n) e from a b to h k l = absurd (cc)
void_place (Specifier.Void place) (suc count) n e from a b to h k l = absurd (cc)
void_place (Specifier.Int place) count n e from a b to h k l = absurd (cc)
void_place (Specifier.Struct place tag) count n e from a b to h k l = absurd (cc)
void_place (Specifier.Alias alias) count n e from a b to h k l = absurd (cc)

listed_spells : (first : Param) (others : List Param) (from mid to : List Word) → param first from mid → commas param others mid to
    → (b : Bool) → is_void_alone first others ≡ b → params (listed first others b) from to
listed_spells first others from mid to h k false e = (e, (mid, h, k))
listed_spells first [] from mid to (a, h, (b, i, j)) k true e =
    subst (λ w. word_at (place_of_specifier first.specifier) Classes.VOID from w) k
    (void_place first.specifier first.stars first.name e from a b mid h i j)
listed_spells first (other ∷ others) from mid to h k true e = absurd (cc)

pub params_agrees : ReadsAs params read_params Forms.params_form
unfolding read_params
params_agrees words proper =
    by_test (begins_specifier (class_at words)) (begins_in (starts Forms.specifier_form ++ []) (classes words)) (same_start words proper)
  where
    same_start : (w : List Word) → AreProper w → begins_specifier (class_at w) ≡ begins_in (starts Forms.specifier_form ++ []) (classes w)
    same_start w p = begins_specifier_same w p

    by_test : (b c : Bool) → b ≡ c → AgreesAs params words
        (cond b (read_param words
        >>= (λ first. read_more (length first.1) read_param first.1
        >>= (λ others. Ok (listed first.0 others.0 (is_void_alone first.0 others.0), others.1)))) (Ok (Params.NoParams, words)))
        (cond c (reads (Both Forms.param_form (Forms.more_of Forms.param_form)) (classes words)) (Done (classes words)))
    by_test true false e = absurd (cc)
    by_test false true e = absurd (cc)
    by_test false false e = (refl, refl, itself words)
    by_test true true e =
        step params words proper param read_param Forms.param_form param_agrees words (itself words) _ _ (λ p ph pb.
        at_last params words proper (commas param) (read_commas read_param) (Forms.more_of Forms.param_form)
        (commas_agree param read_param Forms.param_form param_agrees) p.1 pb
        (λ others. listed p.0 others (is_void_alone p.0 others))
        (λ others to k. listed_spells p.0 others words p.1 to ph k (is_void_alone p.0 others) refl))
