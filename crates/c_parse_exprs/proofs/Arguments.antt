-- The arguments of a call: one, and more behind commas.
use Rattle.std.proofs.Common.{◌≡◌, ℕ, zero, suc, ◌<◌, Bool, true, false, cond, List, [], ◌∷◌, ◌++◌, length, map, refl, sym, ap, ◌∙◌, subst}
use Rattle.std.specs.Prelude.{Ok, Err, if◌then◌else◌}
use Rattle.c_grammar.specs.declared.tokens.fault.ReadFault.{ReadFault}
use Rattle.c_grammar.specs.declared.class.Class.TheVariants as class
use Rattle.c_grammar.specs.Trees as tree
use Rattle.c_grammar.specs.Words.{Word}
use Rattle.c_grammar.specs.Readers.{Got, ◌>>=◌, class_at, behind, is_class, begins_expr, read_each, read_more_args, read_args}
use Rattle.c_tree.specs.declared.exprs.Expr.{Expr}
use Rattle.c_tree.specs.Syntax.{expr_tree, args_of, args_tree}
use Rattle.c_parse_exprs.specs.Reads.{Halts}
use Rattle.c_parse_exprs.proofs.Steps.{halts}
use Rattle.c_parse_exprs.proofs.Loops.{SoFar, so_far_none, Eaten, eaten_more, eaten_end, eaten_halts}

abbrev pub all_args : Got (List tree.Expr) → Got tree.Args
all_args got = got >>= (λ all. Ok (args_of all.0, all.1))

abbrev pub more_args : (List Word → Got tree.Expr) → List Word → Got (List tree.Expr)
more_args read from = read_each (length from) (is_class class.Comma) (λ first. read (behind first)) from

args_each : (times : ℕ) (read : List Word → Got tree.Expr) (words : List Word)
    → read_more_args times read words ≡ all_args (read_each times (is_class class.Comma) (λ first. read (behind first)) words)
args_each zero read words = refl
args_each (suc times) read words = by_seen (is_class class.Comma (class_at words)) (λ next. args_each times read next)
  where
    by_seen : (b : Bool)
        → ((next : List Word)
        → read_more_args times read next ≡ all_args (read_each times (is_class class.Comma) (λ first. read (behind first)) next))
        → (if b then (read (behind words)
        >>= (λ one. read_more_args times read one.1 >>= (λ others. Ok (tree.Args.Arg one.0 others.0, others.1))))
        else Ok (tree.Args.NoArgs, words))
        ≡ all_args (if b
        then (read (behind words)
        >>= (λ one. read_each times (is_class class.Comma) (λ first. read (behind first)) one.1
        >>= (λ others. Ok (one.0 ∷ others.0, others.1)))) else Ok ([], words))
    by_seen false later = refl
    by_seen true later = by_one (read (behind words))
      where
        by_others : (one : tree.Expr) (args : Got tree.Args) (got : Got (List tree.Expr)) → args ≡ all_args got
            → (args >>= (λ others. Ok (tree.Args.Arg one others.0, others.1)))
            ≡ all_args (got >>= (λ others. Ok (one ∷ others.0, others.1)))
        by_others one args (Ok x) same = rw same refl
        by_others one args (Err halt) same = rw same refl

        by_one : (got : Got tree.Expr)
            → (got >>= (λ one. read_more_args times read one.1 >>= (λ others. Ok (tree.Args.Arg one.0 others.0, others.1))))
            ≡ all_args (got
            >>= (λ one. read_each times (is_class class.Comma) (λ first. read (behind first)) one.1
            >>= (λ others. Ok (one.0 ∷ others.0, others.1))))
        by_one (Ok one) = by_others one.0 (read_more_args times read one.1) _ (later one.1)
        by_one (Err halt) = refl

-- the first argument, and more of them so far
pub record ArgsSoFar (read : List Word → Got tree.Expr) (start : List Word) (items : List Expr) (words : List Word) : Type 0 where
  pub first : Expr
  pub others : List Expr
  pub from : List Word
  pub listed : items ≡ first ∷ others
  pub begins : begins_expr (class_at start) ≡ true
  pub one : read start ≡ Ok (expr_tree first, from)
  pub more : SoFar (is_class class.Comma) (λ next. read (behind next)) from (map expr_tree others) words

pub first_arg : (read : List Word → Got tree.Expr) (start : List Word) (none items : List Expr) (words : List Word) (first : Expr)
    → begins_expr (class_at start) ≡ true → read start ≡ Ok (expr_tree first, words) → none ≡ [] → items ≡ none ++ first ∷ []
    → ArgsSoFar read start items words
first_arg read start none items words first begins one empty pushed = record {
  first = first;
  others = [];
  from = words;
  listed = pushed ∙ ap (λ xs. xs ++ first ∷ []) empty;
  begins = begins;
  one = one;
  more = so_far_none (is_class class.Comma) (λ next. read (behind next)) words;
}

pub more_arg : (read : List Word → Got tree.Expr) (start : List Word) (items pushed : List Expr) (words eaten next : List Word) (arg : Expr)
    (seen : Bool)
    → ArgsSoFar read start items words → Eaten class.Comma seen words eaten → seen ≡ true → read eaten ≡ Ok (expr_tree arg, next)
    → pushed ≡ items ++ arg ∷ [] → length next < length words → ArgsSoFar read start pushed next
more_arg read start items pushed words eaten next arg seen so h is got push falls = record {
  first = so.first;
  others = so.others ++ arg ∷ [];
  from = so.from;
  listed = push ∙ ap (λ xs. xs ++ arg ∷ []) so.listed;
  begins = so.begins;
  one = so.one;
  more =
      eaten_more class.Comma read expr_tree so.from so.others (so.others ++ arg ∷ []) words eaten next arg seen so.more h is got refl falls;
}

-- an argument and what stands behind it
abbrev args_after : (List Word → Got tree.Expr) → tree.Expr × List Word → Got tree.Args
args_after read one = read_more_args (length one.1) read one.1 >>= (λ others. Ok (tree.Args.Arg one.0 others.0, others.1))

opened : (read : List Word → Got tree.Expr) (start from : List Word) (first : tree.Expr) → begins_expr (class_at start) ≡ true
    → read start ≡ Ok (first, from)
    → read_args read start ≡ args_after read (first, from)
opened read start from first begins one =
    ap (λ b. cond b (read start >>= args_after read) (Ok (tree.Args.NoArgs, start))) begins ∙ ap (λ g. g >>= args_after read) one

pub all_args_read : (read : List Word → Got tree.Expr) (start : List Word) (items : List Expr) (words eaten : List Word) (seen : Bool)
    → ArgsSoFar read start items words → Eaten class.Comma seen words eaten → seen ≡ false
    → read_args read start ≡ Ok (args_tree items, eaten)
all_args_read read start items words eaten seen so h is =
    opened read start so.from (expr_tree so.first) so.begins so.one
    ∙ ap (λ g. g >>= (λ others. Ok (tree.Args.Arg (expr_tree so.first) others.0, others.1)))
    (args_each (length so.from) read so.from
    ∙ ap all_args (eaten_end class.Comma read so.from (map expr_tree so.others) words eaten seen so.more h is))
    ∙ ap (λ xs. Ok (args_tree xs, eaten)) (sym so.listed)

pub args_halt : (read : List Word → Got tree.Expr) (start : List Word) (items : List Expr) (words eaten : List Word) (seen : Bool)
    (fault : ReadFault)
    → ArgsSoFar read start items words → Eaten class.Comma seen words eaten → seen ≡ true → Halts fault (read eaten)
    → Halts fault (read_args read start)
args_halt read start items words eaten seen fault so h is halt =
    subst (Halts fault) (sym (opened read start so.from (expr_tree so.first) so.begins so.one))
    (halts fault _ _ (subst (Halts fault) (sym (args_each (length so.from) read so.from))
    (halts fault _ _ (eaten_halts class.Comma read so.from (map expr_tree so.others) words eaten seen fault so.more h is refl halt))))
