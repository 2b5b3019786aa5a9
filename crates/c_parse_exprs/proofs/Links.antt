-- Chains of operators: operators and operands that are read one after another.
use Rattle.std.proofs.Common.{◌≡◌, ℕ, zero, suc, ◌<◌, ◌≤◌, Bool, true, false, List, [], ◌∷◌, ◌++◌, length, map, refl, sym, ap, ◌∙◌, subst}
use Rattle.std.proofs.Common.{arith}
use Rattle.std.specs.Prelude.{Option, Some, None, Ok, Err, if◌then◌else◌}
use Rattle.c_grammar.specs.declared.tokens.fault.ReadFault.{ReadFault}
use Rattle.c_grammar.specs.declared.class.Class.{Class}
use Rattle.c_grammar.specs.declared.class.Class.TheVariants as class
use Rattle.c_grammar.specs.Trees as tree
use Rattle.c_grammar.specs.Words.{Word}
use Rattle.c_grammar.specs.Readers.{Got, ◌>>=◌, class_at, behind, wrong, read_each, op_at, link_by, read_links, chained}
use Rattle.c_tree.specs.declared.exprs.Link.{Link}
use Rattle.c_tree.specs.Syntax.{LinkTree, links_of, link_tree, links_tree}
use Rattle.c_parse_exprs.specs.Reads.{Halts}
use Rattle.c_parse_exprs.proofs.Steps.{halts}
use Rattle.c_parse_exprs.proofs.Loops.{SoFar, so_far_more, so_far_end, so_far_halts}

pub chained_more : (first : tree.Expr) (links : List Link) → 0 < length links
    → tree.Expr.Chain first (links_tree links) ≡ chained first (links_tree links)
chained_more first [] some = absurd (omega arith)
chained_more first (one ∷ others) some = refl

abbrev pub has_op : Option tree.BinaryOp → Bool
has_op None = false
has_op (Some op) = true

abbrev pub begins_link : ℕ → Class → Bool
begins_link level kind = has_op (op_at level kind)

-- the operator before what was read
abbrev pub link_with : tree.BinaryOp → Got tree.Expr → Got LinkTree
link_with op (Ok one) = Ok (record { op = op; operand = one.0 }, one.1)
link_with op (Err halt) = Err halt

abbrev pub link_from : Option tree.BinaryOp → (List Word → Got tree.Expr) → List Word → Got LinkTree
link_from None read words = wrong words
link_from (Some op) read words = link_with op (read (behind words))

-- an operator and its operand
abbrev pub read_link : ℕ → (List Word → Got tree.Expr) → List Word → Got LinkTree
read_link level read words = link_from (op_at level (class_at words)) read words

abbrev pub all_links : Got (List LinkTree) → Got tree.Links
all_links got = got >>= (λ all. Ok (links_of all.0, all.1))

abbrev before : LinkTree → Got (List LinkTree) → Got (List LinkTree)
before one got = got >>= (λ others. Ok (one ∷ others.0, others.1))

pub links_each : (times level : ℕ) (read : List Word → Got tree.Expr) (words : List Word)
    → read_links times level read words ≡ all_links (read_each times (begins_link level) (read_link level read) words)
links_each zero level read words = refl
links_each (suc times) level read words = by_op (op_at level (class_at words)) (λ next. links_each times level read next)
  where
    by_op : (o : Option tree.BinaryOp)
        → ((next : List Word)
        → read_links times level read next ≡ all_links (read_each times (begins_link level) (read_link level read) next))
        → link_by o read (read_links times level read) words
        ≡ all_links (if has_op o
        then (link_from o read words >>= (λ one. before one.0 (read_each times (begins_link level) (read_link level read) one.1)))
        else Ok ([], words))
    by_op None later = refl
    by_op (Some op) later = by_one (read (behind words))
      where
        by_others : (operand : tree.Expr) (links : Got tree.Links) (got : Got (List LinkTree)) → links ≡ all_links got
            → (links >>= (λ others. Ok (tree.Links.Link op operand others.0, others.1)))
            ≡ all_links (before (record { op = op; operand = operand }) got)
        by_others operand links (Ok x) same = rw same refl
        by_others operand links (Err halt) same = rw same refl

        by_one : (got : Got tree.Expr)
            → (got >>= (λ one. read_links times level read one.1 >>= (λ others. Ok (tree.Links.Link op one.0 others.0, others.1))))
            ≡ all_links (link_with op got >>= (λ one. before one.0 (read_each times (begins_link level) (read_link level read) one.1)))
        by_one (Ok one) = by_others one.0 (read_links times level read one.1) _ (later one.1)
        by_one (Err halt) = refl

-- the links so far
abbrev pub LinksSoFar : ℕ → (List Word → Got tree.Expr) → List Word → List Link → List Word → Type 0
LinksSoFar level read from links words = SoFar (begins_link level) (read_link level read) from (map link_tree links) words

no_op_missing : (level : ℕ) → op_at level class.OtherKey ≡ None
no_op_missing zero = refl
no_op_missing (suc zero) = refl
no_op_missing (suc (suc zero)) = refl
no_op_missing (suc (suc (suc zero))) = refl
no_op_missing (suc (suc (suc (suc zero)))) = refl
no_op_missing (suc (suc (suc (suc (suc more))))) = refl

pub op_falls : (level : ℕ) (words : List Word) (op : tree.BinaryOp) → op_at level (class_at words) ≡ Some op
    → length (behind words) < length words
op_falls level [] op is = let z : None ≡ Some op = sym (no_op_missing level) ∙ is in absurd (cc)
op_falls level (first ∷ others) op is = omega arith

with_halts : (op : tree.BinaryOp) (fault : ReadFault) (got : Got tree.Expr) → Halts fault got → Halts fault (link_with op got)
with_halts op fault got h =
    record { told = λ refusal is. let (halt, same, place) = h.told refusal is in (halt, ap (link_with op) same, place) }

pub link_more : (level : ℕ) (read : List Word → Got tree.Expr) (from : List Word) (links more : List Link) (words next : List Word)
    (op : tree.BinaryOp) (operand : tree.Expr) (one : Link)
    → LinksSoFar level read from links words → op_at level (class_at words) ≡ Some op → read (behind words) ≡ Ok (operand, next)
    → link_tree one ≡ record { op = op; operand = operand } → more ≡ links ++ one ∷ [] → length next ≤ length (behind words)
    → LinksSoFar level read from more next
link_more level read from links more words next op operand one so is got tree_is pushed stays =
    let falls = op_falls level words op is in
    so_far_more (begins_link level) (read_link level read) link_tree from links more words next one so pushed (ap has_op is)
    (ap (λ o. link_from o read words) is ∙ ap (link_with op) got ∙ ap (λ l. Ok (l, next)) (sym tree_is)) (omega arith)

pub link_end : (level : ℕ) (read : List Word → Got tree.Expr) (from : List Word) (links : List Link) (words : List Word)
    → LinksSoFar level read from links words → op_at level (class_at words) ≡ None
    → read_links (length from) level read from ≡ Ok (links_tree links, words)
link_end level read from links words so none =
    links_each (length from) level read from
    ∙ ap all_links (so_far_end (begins_link level) (read_link level read) from (map link_tree links) words so (ap has_op none))

pub link_halts : (level : ℕ) (read : List Word → Got tree.Expr) (from : List Word) (links : List Link) (words : List Word)
    (op : tree.BinaryOp) (fault : ReadFault)
    → LinksSoFar level read from links words → op_at level (class_at words) ≡ Some op → Halts fault (read (behind words))
    → Halts fault (read_links (length from) level read from)
link_halts level read from links words op fault so is h =
    subst (Halts fault) (sym (links_each (length from) level read from))
    (halts fault _ _
    (so_far_halts (begins_link level) (read_link level read) from (map link_tree links) words fault so (ap has_op is)
    (ap has_op (no_op_missing level))
    (subst (λ o. Halts fault (link_from o read words)) (sym is) (with_halts op fault (read (behind words)) h))))
