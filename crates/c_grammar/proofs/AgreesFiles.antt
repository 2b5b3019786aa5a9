-- The readers agree with the grammar's forms: items and files.
use Rattle.std.proofs.Common.{◌≡◌, ℕ, zero, suc, Bool, true, false, cond, List, [], ◌∷◌, length, refl, sym, subst}
use Rattle.std.specs.Prelude.{Option, Some, None, Result, Ok}
use Rattle.grammar_laws.specs.Form.{Word as AWord, Both, Either, Many, is_in, begins_in, starts}
use Rattle.grammar_laws.specs.Reading.{Read, Done, Stop, go_on, reads}
use Rattle.c_grammar.specs.declared.tokens.places.Place.{Place}
use Rattle.c_grammar.specs.Classes
use Rattle.c_grammar.specs.declared.class.Class.{Class}
use Rattle.c_grammar.specs.declared.class.Class.TheVariants as class
use Rattle.c_grammar.specs.Classes.{number_of}
use Rattle.c_grammar.specs.Words.{Word, classes}
use Rattle.c_grammar.specs.Forms
use Rattle.c_grammar.specs.Trees.{Name, Specifier, Head, Item, File}
use Rattle.c_grammar.specs.Spelling.{Rule, word, word_at, name, each, maybe, specifier, declarator, struct_body, params, head, stmts, item}
use Rattle.c_grammar.specs.Readers.{Halt, ◌>>=◌, class_at, is_class, take, name_here, read_name, read_each, read_declarator}
use Rattle.c_grammar.specs.Readers.{read_struct_body, read_params, read_body, read_stmt, head_of, read_definition, item_end_by, read_headed}
use Rattle.c_grammar.specs.Readers.{struct_by, read_typedef_struct, read_typedef_alias, read_typedef, item_by, read_item, begins_item}
use Rattle.c_grammar.proofs.Agreement.{AreProper, IsBehind, itself, one_behind, proper_behind, AgreesAs, ReadsAs, test_class, test_classes}
use Rattle.c_grammar.proofs.Agreement.{name_agrees, AgreesBy, by_class, wrong_agrees, deep_agrees, each_agrees, step, over, over_open}
use Rattle.c_grammar.proofs.Agreement.{at_word, at_last, at_end}
use Rattle.c_grammar.proofs.AgreesTypes.{declarator_agrees, struct_body_agrees, params_agrees}
use Rattle.c_grammar.proofs.AgreesExprs.{proper_first}
use Rattle.c_grammar.proofs.AgreesStmts.{body_rule, body_agrees, stmt_agrees}

-- the end of an item behind its head
abbrev end_rule : Head → Item → Rule
end_rule h (Item.Prototype same) = λ from to. (same ≡ h) × word Classes.SEMICOLON from to
end_rule h (Item.Definition same place body end) = λ from to.
    (same ≡ h) × ((a : List Word) × word_at place Classes.OPEN_BRACE from a
    × ((b : List Word) × stmts body a b × word_at end Classes.CLOSE_BRACE b to))
end_rule h _ = λ from to. ⊥

end_spells : (h : Head) (i : Item) (from mid to : List Word) → head h from mid → end_rule h i mid to → item i from to
end_spells h (Item.Prototype same) from mid to k (e, l) = (mid, subst (λ g. head g from mid) (sym e) k, l)
end_spells h (Item.Definition same place body end) from mid to k (e, l) = (mid, subst (λ g. head g from mid) (sym e) k, l)
end_spells h (Item.StructItem place tag lines) from mid to k l = absurd l
end_spells h (Item.TypedefStruct place tag lines alias) from mid to k l = absurd l
end_spells h (Item.TypedefAlias place tag alias) from mid to k l = absurd l

definition_agrees : (n : ℕ) (h : Head) (first : Word) (others : List Word) → first.class ≡ Classes.OPEN_BRACE → AreProper others
    → AgreesAs (end_rule h) (first ∷ others) (read_definition (suc n) h (first ∷ others))
    (reads (Forms.block_tail_form (Forms.stmt_form n)) (classes others))
definition_agrees n h first others e proper =
    at_last (end_rule h) (first ∷ others) (proper_first class.OpenBrace first others e proper) body_rule (read_body (read_stmt n))
    (Forms.block_tail_form (Forms.stmt_form n)) (body_agrees n (stmt_agrees n)) others (one_behind first others)
    (λ body. Item.Definition h first.place body.stmts body.end) (λ body to k. (refl, (others, (e, refl, refl), k)))

end_by_agrees : (n : ℕ) (h : Head)
    → AgreesBy (λ (x : Item × List Word). x.1) (λ words x. end_rule h x.0 words x.1) (λ c words. item_end_by c n h words)
    (Forms.item_end_form n)
end_by_agrees zero h class.Semicolon first others e proper = (refl, (refl, (e, refl)), one_behind first others)
end_by_agrees zero h class.OpenBrace first others e proper =
    deep_agrees (λ (x : Item × List Word). x.1) (λ x. end_rule h x.0 (first ∷ others) x.1) first others _ e
end_by_agrees zero h _ first others e proper =
    wrong_agrees (λ (x : Item × List Word). x.1) (λ x. end_rule h x.0 (first ∷ others) x.1) first others _ e
end_by_agrees (suc n) h class.Semicolon first others e proper = (refl, (refl, (e, refl)), one_behind first others)
end_by_agrees (suc n) h class.OpenBrace first others e proper = definition_agrees n h first others e proper
end_by_agrees (suc n) h _ first others e proper =
    wrong_agrees (λ (x : Item × List Word). x.1) (λ x. end_rule h x.0 (first ∷ others) x.1) first others _ e

end_empty : (n : ℕ) (h : Head) → AgreesAs (end_rule h) [] (item_end_by class.OtherKey n h []) (reads (Forms.item_end_form n) [])
end_empty zero h = (refl, itself [])
end_empty (suc n) h = (refl, itself [])

end_agrees : (n : ℕ) (h : Head) → ReadsAs (end_rule h) (λ words. item_end_by (class_at words) n h words) (Forms.item_end_form n)
end_agrees n h words proper =
    by_class (λ (x : Item × List Word). x.1) (λ w x. end_rule h x.0 w x.1) (λ c w. item_end_by c n h w) (Forms.item_end_form n)
    (end_empty n h) (end_by_agrees n h) words proper

-- an item behind its type
headed_agrees : (n : ℕ) (s : Specifier) (from words : List Word) → AreProper from → IsBehind words from → specifier s from words
    → AgreesAs item from (read_headed n s words)
    (go_on (reads Forms.head_tail_form (classes words)) (λ rest. reads (Forms.item_end_form n) rest))
unfolding read_headed
headed_agrees n s from words proper b h =
    subst (λ r. AgreesAs item from (read_headed n s words) r)
    (regroup (reads Forms.declarator_form (classes words)) (reads Forms.open_form) (reads Forms.params_form) (reads (AWord Classes.CLOSE))
    (reads (Forms.item_end_form n)))
    (step item from proper declarator read_declarator Forms.declarator_form declarator_agrees words b _
    (λ a. go_on (reads Forms.open_form a)
    (λ c. go_on (reads Forms.params_form c) (λ d. go_on (reads (AWord Classes.CLOSE) d) (reads (Forms.item_end_form n))))) (λ d dh db.
    over_open item from proper d.1 db _ _ (λ a ah ab.
    step item from proper params read_params Forms.params_form params_agrees a ab _ _ (λ p ph pb.
    over item from proper class.Close refl p.1 pb _ _ (λ r rh rb.
    at_end item from proper (item_end_by (class_at r) n (head_of s d.0 p.0) r) (reads (Forms.item_end_form n) (classes r)) r rb
    (end_rule (head_of s d.0 p.0))
    (λ i to k. end_spells (head_of s d.0 p.0) i from r to (words, h, (d.1, dh, (a, ah, (p.1, ph, rh)))) k)
    (end_agrees n (head_of s d.0 p.0) r (proper_behind rb proper)))))))
  where
    regroup : (r : Read) (f g h k : List ℕ → Read)
        → go_on r (λ a. go_on (f a) (λ c. go_on (g c) (λ d. go_on (h d) k))) ≡ go_on (go_on r (λ a. go_on (f a) (λ c. go_on (g c) h))) k
    regroup (Done rest) f g h k = one (f rest)
      where
        two : (r : Read) → go_on r (λ d. go_on (h d) k) ≡ go_on (go_on r h) k
        two (Done mid) = refl
        two (Stop deep mid) = refl

        one : (r : Read) → go_on r (λ c. go_on (g c) (λ d. go_on (h d) k)) ≡ go_on (go_on r (λ c. go_on (g c) h)) k
        one (Done mid) = two (g mid)
        one (Stop deep mid) = refl
    regroup (Stop deep rest) f g h k = refl

struct_item_agrees : (n : ℕ) (place : Place) (tag : Name) (from a words : List Word) → AreProper from → IsBehind words from
    → word_at place Classes.STRUCT from a → name tag a words
    → AgreesAs item from (struct_by (is_class class.OpenBrace (class_at words)) n place tag words)
    (reads (Either (Both Forms.struct_body_form (AWord Classes.SEMICOLON)) (Both Forms.head_tail_form (Forms.item_end_form n)))
    (classes words))
struct_item_agrees n place tag from a words proper b key th =
    by_test (is_class class.OpenBrace (class_at words)) (begins_in (Classes.OPEN_BRACE ∷ []) (classes words))
    (test_class class.OpenBrace words (proper_behind b proper) refl)
  where
    by_test : (x y : Bool) → x ≡ y → AgreesAs item from (struct_by x n place tag words)
        (cond y (reads (Both Forms.struct_body_form (AWord Classes.SEMICOLON)) (classes words))
        (reads (Both Forms.head_tail_form (Forms.item_end_form n)) (classes words)))
    by_test true false e = absurd (cc)
    by_test false true e = absurd (cc)
    by_test true true e =
        step item from proper struct_body read_struct_body Forms.struct_body_form struct_body_agrees words b _ _ (λ l lh lb.
        at_word item from proper class.Semicolon refl l.1 lb (Item.StructItem place tag l.0) (λ to k. (a, key, (words, th, (l.1, lh, k)))))
    by_test false false e = headed_agrees n (Specifier.Struct place tag) from words proper b (a, key, th)

-- a `typedef` with fields, from its `{` on
fields_agree : (place : Place) (tag : Option Name) (from a b words : List Word) → AreProper from → IsBehind words from
    → word_at place Classes.TYPEDEF from a → word Classes.STRUCT a b → maybe name tag b words
    → AgreesAs item from (read_typedef_struct place tag words)
    (reads (Both Forms.struct_body_form (Both (AWord Classes.NAME) (AWord Classes.SEMICOLON))) (classes words))
fields_agree place tag from a b words proper behind_from key struct th =
    step item from proper struct_body read_struct_body Forms.struct_body_form struct_body_agrees words behind_from _ _ (λ l lh lb.
    step item from proper name read_name (AWord Classes.NAME) name_agrees l.1 lb _ _ (λ n nh nb.
    at_word item from proper class.Semicolon refl n.1 nb (Item.TypedefStruct place tag l.0 n.0)
    (λ to k. (a, key, (b, struct, (words, th, (l.1, lh, (n.1, nh, k))))))))

alias_agrees : (place : Place) (tag : Name) (from a b words : List Word) → AreProper from → IsBehind words from
    → word_at place Classes.TYPEDEF from a → word Classes.STRUCT a b → name tag b words
    → AgreesAs item from (read_typedef_alias place tag words) (reads (Both (AWord Classes.NAME) (AWord Classes.SEMICOLON)) (classes words))
alias_agrees place tag from a b words proper behind_from key struct th =
    step item from proper name read_name (AWord Classes.NAME) name_agrees words behind_from _ _ (λ n nh nb.
    at_word item from proper class.Semicolon refl n.1 nb (Item.TypedefAlias place tag n.0)
    (λ to k. (a, key, (b, struct, (words, th, (n.1, nh, k))))))

tagged_agrees : (place : Place) (tag : Name) (from a b words : List Word) → AreProper from → IsBehind words from
    → word_at place Classes.TYPEDEF from a → word Classes.STRUCT a b → name tag b words
    → AgreesAs item from
    (cond (is_class class.OpenBrace (class_at words)) (read_typedef_struct place (Some tag) words) (read_typedef_alias place tag words))
    (reads (Either (Both Forms.struct_body_form (Both (AWord Classes.NAME) (AWord Classes.SEMICOLON)))
    (Both (AWord Classes.NAME) (AWord Classes.SEMICOLON))) (classes words))
tagged_agrees place tag from a b words proper behind_from key struct th =
    by_test (is_class class.OpenBrace (class_at words)) (begins_in (Classes.OPEN_BRACE ∷ []) (classes words))
    (test_class class.OpenBrace words (proper_behind behind_from proper) refl)
  where
    by_test : (x y : Bool) → x ≡ y
        → AgreesAs item from (cond x (read_typedef_struct place (Some tag) words) (read_typedef_alias place tag words))
        (cond y (reads (Both Forms.struct_body_form (Both (AWord Classes.NAME) (AWord Classes.SEMICOLON))) (classes words))
        (reads (Both (AWord Classes.NAME) (AWord Classes.SEMICOLON)) (classes words)))
    by_test true false e = absurd (cc)
    by_test false true e = absurd (cc)
    by_test true true e = fields_agree place (Some tag) from a b words proper behind_from key struct th
    by_test false false e = alias_agrees place tag from a b words proper behind_from key struct th

untagged_agrees : (place : Place) (from a b : List Word) → AreProper from → IsBehind b from → word_at place Classes.TYPEDEF from a
    → word Classes.STRUCT a b
    → AgreesAs item from
    (cond (is_class class.OpenBrace (class_at b)) (read_typedef_struct place None b)
    (read_name b
    >>= (λ tag. cond (is_class class.OpenBrace (class_at tag.1)) (read_typedef_struct place (Some tag.0) tag.1)
    (read_typedef_alias place tag.0 tag.1))))
    (reads (Either (Both Forms.struct_body_form (Both (AWord Classes.NAME) (AWord Classes.SEMICOLON)))
    (Both (AWord Classes.NAME)
    (Either (Both Forms.struct_body_form (Both (AWord Classes.NAME) (AWord Classes.SEMICOLON)))
    (Both (AWord Classes.NAME) (AWord Classes.SEMICOLON))))) (classes b))
untagged_agrees place from a b proper behind_from key struct =
    by_test (is_class class.OpenBrace (class_at b)) (begins_in (Classes.OPEN_BRACE ∷ []) (classes b))
    (test_class class.OpenBrace b (proper_behind behind_from proper) refl)
  where
    by_test : (x y : Bool) → x ≡ y → AgreesAs item from
        (cond x (read_typedef_struct place None b)
        (read_name b
        >>= (λ tag. cond (is_class class.OpenBrace (class_at tag.1)) (read_typedef_struct place (Some tag.0) tag.1)
        (read_typedef_alias place tag.0 tag.1))))
        (cond y (reads (Both Forms.struct_body_form (Both (AWord Classes.NAME) (AWord Classes.SEMICOLON))) (classes b))
        (reads (Both (AWord Classes.NAME)
        (Either (Both Forms.struct_body_form (Both (AWord Classes.NAME) (AWord Classes.SEMICOLON)))
        (Both (AWord Classes.NAME) (AWord Classes.SEMICOLON)))) (classes b)))
    by_test true false e = absurd (cc)
    by_test false true e = absurd (cc)
    by_test true true e = fields_agree place None from a b b proper behind_from key struct refl
    by_test false false e =
        step item from proper name read_name (AWord Classes.NAME) name_agrees b behind_from _ _
        (λ n nh nb. tagged_agrees place n.0 from a b n.1 proper nb key struct nh)

typedef_agrees : (first : Word) (others : List Word) → first.class ≡ Classes.TYPEDEF → AreProper others
    → AgreesAs item (first ∷ others) (read_typedef (first ∷ others))
    (reads (Both (AWord Classes.STRUCT)
    (Either (Both Forms.struct_body_form (Both (AWord Classes.NAME) (AWord Classes.SEMICOLON)))
    (Both (AWord Classes.NAME)
    (Either (Both Forms.struct_body_form (Both (AWord Classes.NAME) (AWord Classes.SEMICOLON)))
    (Both (AWord Classes.NAME) (AWord Classes.SEMICOLON)))))) (classes others))
unfolding read_typedef
typedef_agrees first others e proper =
    let p = proper_first class.Typedef first others e proper in
    over item (first ∷ others) p class.Struct refl others (one_behind first others) _ _
    (λ b bh bb. untagged_agrees first.place (first ∷ others) others b p bb (e, refl, refl) bh)

struct_agrees : (n : ℕ) (first : Word) (others : List Word) → first.class ≡ Classes.STRUCT → AreProper others
    → AgreesAs item (first ∷ others) (item_by class.Struct n (first ∷ others))
    (reads (Both (AWord Classes.NAME)
    (Either (Both Forms.struct_body_form (AWord Classes.SEMICOLON)) (Both Forms.head_tail_form (Forms.item_end_form n)))) (classes others))
struct_agrees n first others e proper =
    let p = proper_first class.Struct first others e proper in
    step item (first ∷ others) p name read_name (AWord Classes.NAME) name_agrees others (one_behind first others) _ _ (λ t th tb.
    struct_item_agrees n first.place t.0 (first ∷ others) others t.1 p tb (e, refl, refl) th)

item_by_agrees : (n : ℕ)
    → AgreesBy (λ (x : Item × List Word). x.1) (λ words x. item x.0 words x.1) (λ c words. item_by c n words) (Forms.item_form n)
item_by_agrees n class.Struct first others e proper = struct_agrees n first others e proper
item_by_agrees n class.Typedef first others e proper = typedef_agrees first others e proper
item_by_agrees n class.Int first others e proper =
    headed_agrees n (Specifier.Int first.place) (first ∷ others) others (proper_first class.Int first others e proper)
    (one_behind first others) (e, refl, refl)
item_by_agrees n class.Void first others e proper =
    headed_agrees n (Specifier.Void first.place) (first ∷ others) others (proper_first class.Void first others e proper)
    (one_behind first others) (e, refl, refl)
item_by_agrees n class.Name first others e proper =
    headed_agrees n (Specifier.Alias (name_here (first ∷ others))) (first ∷ others) others (proper_first class.Name first others e proper)
    (one_behind first others) (e, refl, refl, refl)
item_by_agrees n _ first others e proper =
    wrong_agrees (λ (x : Item × List Word). x.1) (λ x. item x.0 (first ∷ others) x.1) first others _ e

pub item_agrees : (n : ℕ) → ReadsAs item (read_item n) (Forms.item_form n)
unfolding read_item
item_agrees n words proper =
    by_class (λ (x : Item × List Word). x.1) (λ w x. item x.0 w x.1) (λ c w. item_by c n w) (Forms.item_form n) (refl, itself [])
    (item_by_agrees n) words proper

item_starts : (c : Class) → begins_item c ≡ is_in (number_of c) (starts (Forms.item_form zero))
item_starts class.Struct = refl
item_starts _ = refl

-- the items of a file
pub items_agree : (n : ℕ)
    → ReadsAs (each item) (λ words. read_each (length words) begins_item (read_item n) words) (Many (Forms.item_form n))
items_agree n words proper =
    each_agrees item (read_item n) (Forms.item_form n) begins_item
    (λ w p. test_classes begins_item (starts (Forms.item_form zero)) item_starts refl w p) (λ w p e. item_agrees n w p) words proper

-- a file and the words behind it
abbrev pub FileGot : Type 0
FileGot = Result (File × List Word) Halt

abbrev pub read_file_with : ℕ → List Word → FileGot
read_file_with n words =
    read_each (length words) begins_item (read_item n) words
    >>= (λ items. take class.End items.1 >>= (λ rest. Ok (record { items = items.0 }, rest)))

abbrev pub file_rule : File → Rule
file_rule file = λ from to. (mid : List Word) × each item file.items from mid × word Classes.END mid to

pub file_agrees : (n : ℕ) → ReadsAs file_rule (read_file_with n) (Forms.file_form n)
file_agrees n words proper =
    step file_rule words proper (each item) (λ w. read_each (length w) begins_item (read_item n) w) (Many (Forms.item_form n))
    (items_agree n) words (itself words) _ _ (λ x h b.
    at_word file_rule words proper class.End refl x.1 b (record { items = x.0 }) (λ to k. (x.1, h, k)))
