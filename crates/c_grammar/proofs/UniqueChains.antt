-- At most one expression of each level leads from some words to others.
use Rattle.std.proofs.Common.{◌≡◌, ◌⊎◌, inl, inr, ℕ, zero, suc, ◌+◌, ◌≤◌, List, [], ◌++◌, length, refl, sym, ap, ap₂, ◌∙◌, subst, arith}
use Rattle.std.specs.Prelude.{◌==◌, if◌then◌else◌}
use Rattle.grammar_laws.specs.Form.{Form, Both, Many, starts, continues, may_be_empty, IsGood}
use Rattle.grammar_laws.proofs.Classes.{begins_not_left, begins_not_right, begins_without}
use Rattle.c_grammar.specs.Words.{Word, classes}
use Rattle.c_grammar.specs.Forms
use Rattle.c_grammar.specs.Matching.{IsForm}
use Rattle.c_grammar.specs.Trees.{BinaryOp, Expr, Links}
use Rattle.c_grammar.specs.Spelling.{word, class_of_binary, level_of, expr_at, links_at}
use Rattle.c_grammar.specs.Nesting.{nesting, links_nesting}
use Rattle.c_grammar.specs.Readers.{chained}
use Rattle.c_grammar.proofs.OneWordAhead.{expr_good}
use Rattle.c_grammar.proofs.Parts.{is_both}
use Rattle.c_grammar.proofs.Spelled.{is_op, is_expr, is_links}
use Rattle.c_grammar.proofs.Synced.{Ends, synced_both, ends_first, fewer, no_more, good_pair, begins_neither}
use Rattle.c_grammar.proofs.UniqueExprs.{one_word, UniqueAt, unique_postfix, unique_unary_zero, unique_unary_more}

abbrev op_of : ℕ → BinaryOp
op_of class =
    if class == 45 then BinaryOp.Or
    else (if class == 44 then BinaryOp.And else (if class == 34 then BinaryOp.Equal else (if class == 35 then BinaryOp.NotEqual
    else (if class == 36 then BinaryOp.Less else (if class == 37 then BinaryOp.LessEqual else (if class == 38 then BinaryOp.Greater
    else (if class == 39 then BinaryOp.GreaterEqual
    else (if class == 40 then BinaryOp.Add else (if class == 41 then BinaryOp.Subtract else BinaryOp.Multiply)))))))))

-- the word of an operator tells which it is
same_binary : (op other : BinaryOp) → class_of_binary op ≡ class_of_binary other → op ≡ other
same_binary op other e = sym (back op) ∙ ap op_of e ∙ back other
  where
    back : (o : BinaryOp) → op_of (class_of_binary o) ≡ o
    back BinaryOp.Or = refl
    back BinaryOp.And = refl
    back BinaryOp.Equal = refl
    back BinaryOp.NotEqual = refl
    back BinaryOp.Less = refl
    back BinaryOp.LessEqual = refl
    back BinaryOp.Greater = refl
    back BinaryOp.GreaterEqual = refl
    back BinaryOp.Add = refl
    back BinaryOp.Subtract = refl
    back BinaryOp.Multiply = refl

-- the first operand of a level, and what is linked to it
record Linked (n level : ℕ) (e : Expr) (from to : List Word) : Type 0 where
  first : Expr
  others : Links
  mid : List Word
  spells : expr_at (level + 1) first from mid
  links : links_at level others mid to
  fits : nesting first ≤ n
  fits_others : links_nesting others ≤ n
  is : e ≡ chained first others

alone : (n level : ℕ) (e : Expr) (from to : List Word) → expr_at (level + 1) e from to → nesting e ≤ n → Linked n level e from to
alone n level e from to h fits =
    record { first = e; others = Links.NoLinks; mid = to; spells = h; links = refl; fits = fits; fits_others = omega arith; is = refl }

linked : (n level : ℕ) (e : Expr) (from to : List Word) → level ≤ 5 → nesting e ≤ n → expr_at level e from to → Linked n level e from to
linked n level (Expr.Chain first Links.NoLinks) from to low fits h = absurd h
linked n level (Expr.Chain first (Links.Link op second others)) from to low fits (least, (a, h, (b, i, (c, j, k)))) =
    by_case (let c : (level_of op ≡ level) ⊎ (level + 1 ≤ level_of op) = grind arith in c)
  where
    by_case : (level_of op ≡ level) ⊎ (level + 1 ≤ level_of op) → Linked n level (Expr.Chain first (Links.Link op second others)) from to
    by_case (inl same) = record {
      first = first;
      others = Links.Link op second others;
      mid = a;
      spells = subst (λ l. expr_at (l + 1) first from a) same h;
      links = (same, (b, i, (c, subst (λ l. expr_at (l + 1) second b c) same j, subst (λ l. links_at l others c to) same k)));
      fits = omega arith;
      fits_others = omega arith;
      is = refl;
    }
    by_case (inr more) = alone n level (Expr.Chain first (Links.Link op second others)) from to (more, (a, h, (b, i, (c, j, k)))) fits
linked n level (Expr.Prefix p op inner) from to low fits (least, h) = alone n level (Expr.Prefix p op inner) from to (omega arith, h) fits
linked n level (Expr.Members base first others) from to low fits (least, h) =
    alone n level (Expr.Members base first others) from to (omega arith, h) fits
linked n level (Expr.Variable v) from to low fits h = alone n level (Expr.Variable v) from to h fits
linked n level (Expr.Number p x) from to low fits h = alone n level (Expr.Number p x) from to h fits
linked n level (Expr.Null p) from to low fits h = alone n level (Expr.Null p) from to h fits
linked n level (Expr.Paren p x) from to low fits h = alone n level (Expr.Paren p x) from to h fits
linked n level (Expr.Call callee args) from to low fits h = alone n level (Expr.Call callee args) from to h fits
linked n level (Expr.Malloc p s t) from to low fits h = alone n level (Expr.Malloc p s t) from to h fits

-- the operands of so many levels of operators
abbrev operand_form : ℕ → ℕ → Form
operand_form levels n = Forms.chain_form levels (Forms.unary_form n)

-- an operator and its operand
abbrev link_form : ℕ → ℕ → Form
link_form levels n = Both (Forms.ops_form levels) (operand_form levels n)

link_lead : (op : BinaryOp) (e : Expr) (level levels n : ℕ) (from a b : List Word) → level + levels ≡ 5 → level_of op ≡ level
    → nesting e ≤ n
    → word (class_of_binary op) from a → expr_at (level + 1) e a b → IsForm (link_form levels n) from b
link_lead op e level levels n from a b five same fits h i =
    is_both (is_op op levels from a (omega arith) h) (is_expr e (level + 1) (suc (suc levels)) n a b (omega arith) fits i)

link_ends : (levels n : ℕ) (to : List Word) → Ends (Many (link_form levels n)) to
    → Ends (Both (link_form levels n) (Many (link_form levels n))) to
link_ends levels n to ends =
    begins_neither (starts (link_form levels n) ++ continues (link_form levels n)) (continues (link_form levels n)) (classes to) ends
    (begins_not_right (starts (link_form levels n)) (continues (link_form levels n)) (classes to) ends)

unique_links : (level levels n : ℕ) → level + levels ≡ 5 → IsGood (Many (link_form levels n))
    → UniqueAt (level + 1) n (operand_form levels n)
    → (x y : Links) (from to : List Word) → links_nesting x ≤ n → links_nesting y ≤ n → links_at level x from to → links_at level y from to
    → Ends (Many (link_form levels n)) to → x ≡ y
unique_links level levels n five good unique Links.NoLinks Links.NoLinks from to fx fy h k ends = refl
unique_links level levels n five good unique Links.NoLinks (Links.Link op e y) from to fx fy h (same, (a, k, (b, l, m))) ends =
    let f = fewer (link_form levels n) good.0 good.1 from b (link_lead op e level levels n from a b five same (omega arith) k l) in
    let g = no_more (Many (link_form levels n)) b to (is_links y level levels n b to five (omega arith) m) in
    let s : length from ≡ length to = ap length h in absurd (omega arith)
unique_links level levels n five good unique (Links.Link op e x) Links.NoLinks from to fx fy (same, (a, k, (b, l, m))) h ends =
    let f = fewer (link_form levels n) good.0 good.1 from b (link_lead op e level levels n from a b five same (omega arith) k l) in
    let g = no_more (Many (link_form levels n)) b to (is_links x level levels n b to five (omega arith) m) in
    let s : length from ≡ length to = ap length h in absurd (omega arith)
unique_links level levels n five good unique (Links.Link op e x) (Links.Link other f y) from to fx fy (same, (a, h, (b, i, j)))
    (same', (c, k, (d, l, m))) ends =
    let (ea, class) = one_word (class_of_binary op) (class_of_binary other) from a c h k in
    let ops : op ≡ other = same_binary op other class in
    let l' : expr_at (level + 1) f a d = subst (λ w. expr_at (level + 1) f w d) (sym ea) l in
    let k' : word (class_of_binary other) from a = subst (λ w. word (class_of_binary other) from w) (sym ea) k in
    let pair = good_pair (link_form levels n) good in
    let ends' = link_ends levels n to ends in
    let jx = is_links x level levels n b to five (omega arith) j in
    let eb : b ≡ d =
    synced_both (link_form levels n) (Many (link_form levels n)) pair from b d to
    (link_lead op e level levels n from a b five same (omega arith) h i) jx
    (link_lead other f level levels n from a d five same' (omega arith) k' l')
    (is_links y level levels n d to five (omega arith) m) ends' in
    let l'' : expr_at (level + 1) f a b = subst (λ w. expr_at (level + 1) f a w) (sym eb) l' in
    let m' : links_at level y b to = subst (λ w. links_at level y w to) (sym eb) m in
    let ends_e : Ends (operand_form levels n) b =
    ends_operand b (ends_first (link_form levels n) (Many (link_form levels n)) pair b to jx ends') in
    let operand : e ≡ f = unique e f a b (omega arith) (omega arith) i l'' ends_e in
    let rest : x ≡ y = unique_links level levels n five good unique x y b to (omega arith) (omega arith) j m' ends in
    λ i. Links.Link (ops i) (operand i) (rest i)
  where
    ends_operand : (w : List Word) → Ends (link_form levels n) w → Ends (operand_form levels n) w
    ends_operand w e =
        begins_not_left (continues (operand_form levels n))
        (if may_be_empty (operand_form levels n) then continues (Forms.ops_form levels) else []) (classes w) e

-- operands of one level more
one_level : (level levels n : ℕ) → level + levels ≡ 5 → IsGood (operand_form (suc levels) n)
    → UniqueAt (level + 1) n (operand_form levels n) → UniqueAt level n (operand_form (suc levels) n)
one_level level levels n five good unique e f from to fe ff h k ends =
    let p = linked n level e from to (omega arith) fe h in
    let q = linked n level f from to (omega arith) ff k in
    let links = is_links p.others level levels n p.mid to five p.fits_others p.links in
    let same : p.mid ≡ q.mid = synced_both (operand_form levels n) (Many (link_form levels n)) good from p.mid q.mid to
    (is_expr p.first (level + 1) (suc (suc levels)) n from p.mid (omega arith) p.fits p.spells) links
    (is_expr q.first (level + 1) (suc (suc levels)) n from q.mid (omega arith) q.fits q.spells)
    (is_links q.others level levels n q.mid to five q.fits_others q.links) ends in
    let spells : expr_at (level + 1) q.first from p.mid = subst (λ w. expr_at (level + 1) q.first from w) (sym same) q.spells in
    let others : links_at level q.others p.mid to = subst (λ w. links_at level q.others w to) (sym same) q.links in
    let ends_links : Ends (Many (link_form levels n)) to =
    begins_not_left (continues (Many (link_form levels n))) (continues (operand_form levels n)) (classes to) ends in
    let first : p.first
    ≡ q.first =
    unique p.first q.first from p.mid p.fits q.fits p.spells spells
    (ends_first (operand_form levels n) (Many (link_form levels n)) good p.mid to links ends) in
    let rest : p.others ≡ q.others =
    unique_links level levels n five good.1 unique p.others q.others p.mid to p.fits_others q.fits_others p.links others ends_links in
    p.is ∙ ap₂ chained first rest ∙ sym q.is

chain_unique : (levels level n : ℕ) → level + levels ≡ 6 → IsGood (operand_form levels n) → UniqueAt 6 n (Forms.unary_form n)
    → UniqueAt level n (operand_form levels n)
chain_unique zero level n six good unique = subst (λ l. UniqueAt l n (Forms.unary_form n)) (let e : 6 ≡ level = omega arith in e) unique
chain_unique (suc levels) level n six good unique =
    one_level level levels n (omega arith) good (chain_unique levels (level + 1) n (omega arith) good.0 unique)

expr_over_unique : (n : ℕ) → UniqueAt 6 n (Forms.unary_form n) → UniqueAt 0 n (Forms.expr_form n)
expr_over_unique n unique e f from to fe ff h k ends =
    chain_unique 6 0 n refl (expr_good n).0 unique e f from to fe ff h k
    (begins_without (continues (operand_form 6 n)) (Forms.expr_facts).continues (classes to) refl ends)

pub unary_unique : (n : ℕ) → UniqueAt 6 n (Forms.unary_form n)
unary_unique zero = unique_unary_zero
unary_unique (suc n) = unique_unary_more n (unary_unique n) (expr_over_unique n (unary_unique n))

pub expr_unique : (n : ℕ) → UniqueAt 0 n (Forms.expr_form n)
expr_unique n = expr_over_unique n (unary_unique n)

pub postfix_unique : (n : ℕ) → UniqueAt 7 n (Forms.postfix_form n (Forms.expr_below n))
postfix_unique zero = unique_postfix zero tt
postfix_unique (suc n) = unique_postfix (suc n) (expr_unique n)
