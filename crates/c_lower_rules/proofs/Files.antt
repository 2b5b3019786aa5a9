-- Items, and the law of files that were parsed.
use Rattle.std.specs.Prelude.{Option, Some, None, IfSome, All}
use Rattle.std.proofs.lemmas.List.Elements.{All-from_recursion, All-weaker}
use Rattle.c_grammar.specs.Classes
use Rattle.c_grammar.specs.Words.{words_of}
use Rattle.c_grammar.specs.Trees.{Name, Item}
use Rattle.c_grammar.specs.Spelling.{name, item}
use Rattle.c_types_rules.specs.Tables.{tag_or}
use Rattle.c_lower_rules.specs.Texts.{IsNamed, IsItemNamed, AreItemLines}
use Rattle.c_lower_rules.specs.Numbers.{ItemHasIntNumbers}
use Rattle.c_lower_rules.specs.Fields.{ItemHasCountableFields}
use Rattle.c_lower_rules.specs.Parsed.{HaveTexts}
use Rattle.c_lower_rules.proofs.GoodWords.{words_good}
use Rattle.c_lower_rules.proofs.Steps.{then, ends, a_word, a_word_at, a_name, Shows, all_shown, maybe_shown}
use Rattle.c_lower_rules.proofs.Parts.{a_struct_body, a_head}
use Rattle.c_lower_rules.proofs.Statements.{some_stmts}

-- what the law says of each item
record IsFitItem (i : Item) : Type 0 where
  named : IsItemNamed i
  lines : AreItemLines i
  numbers : ItemHasIntNumbers i
  fields : ItemHasCountableFields i

tag_named : (tag : Option Name) (alias : Name) → IfSome tag IsNamed → IsNamed alias → IsNamed (tag_or tag alias)
tag_named None alias h k = k
tag_named (Some tag) alias h k = h

an_item : Shows item IsFitItem
an_item (Item.StructItem place tag lines) from to good (a, h, (b, i, (c, j, k))) =
    then (a_word_at place Classes.STRUCT from a good h) (λ w.
    then (a_name tag a b w.good i) (λ n.
    then (a_struct_body lines b c n.good j) (λ x.
    ends (a_word Classes.SEMICOLON c to x.good k)
    (λ v. record { named = (n.is.0.named, x.is.named); lines = tt; numbers = tt; fields = x.is.few }))))
an_item (Item.TypedefStruct place tag lines alias) from to good (a, h, (b, i, (c, j, (d, k, (e, l, m))))) =
    then (a_word_at place Classes.TYPEDEF from a good h) (λ w.
    then (a_word Classes.STRUCT a b w.good i) (λ v.
    then (maybe_shown name IsNamed (λ n x y g r. ends (a_name n x y g r) (λ f. f.0.named)) tag b c v.good j) (λ t.
    then (a_struct_body lines c d t.good k) (λ x.
    then (a_name alias d e x.good l) (λ n.
    ends (a_word Classes.SEMICOLON e to n.good m)
    (λ u. record { named = (tag_named tag alias t.is n.is.0.named, x.is.named); lines = tt; numbers = tt; fields = x.is.few }))))))
an_item (Item.TypedefAlias place tag alias) from to good (a, h, (b, i, (c, j, (d, k, l)))) =
    then (a_word_at place Classes.TYPEDEF from a good h) (λ w.
    then (a_word Classes.STRUCT a b w.good i) (λ v.
    then (a_name tag b c v.good j) (λ t.
    then (a_name alias c d t.good k) (λ n.
    ends (a_word Classes.SEMICOLON d to n.good l) (λ u. record { named = tt; lines = tt; numbers = tt; fields = tt })))))
an_item (Item.Prototype h) from to good (a, i, k) =
    then (a_head h from a good i) (λ x.
    ends (a_word Classes.SEMICOLON a to x.good k) (λ w. record { named = x.is.named; lines = tt; numbers = tt; fields = tt }))
an_item (Item.Definition h place body end) from to good (a, i, (b, j, (c, k, l))) =
    then (a_head h from a good i) (λ x.
    then (a_word_at place Classes.OPEN_BRACE a b x.good j) (λ w.
    then (some_stmts body b c w.good k) (λ y.
    ends (a_word_at end Classes.CLOSE_BRACE c to y.good l)
    (λ v. record { named = x.is.named; lines = (x.is.line, y.is.lines, v.0); numbers = (x.is.few, y.is.numbers); fields = tt }))))

pub files_are_texts : HaveTexts
files_are_texts text tokens file short has (mid, h, k) =
    let items = all_shown item IsFitItem an_item file.items (words_of tokens) mid (words_good text tokens short has) h in
    let each : All IsFitItem file.items = All-from_recursion IsFitItem file.items items.is in
    record {
      text = record {
        names = All-weaker IsFitItem IsItemNamed (λ i fit. fit.named) file.items each;
        lines = All-weaker IsFitItem AreItemLines (λ i fit. fit.lines) file.items each;
      };
      numbers = All-weaker IsFitItem ItemHasIntNumbers (λ i fit. fit.numbers) file.items each;
      fields = All-weaker IsFitItem ItemHasCountableFields (λ i fit. fit.fields) file.items each;
    }
