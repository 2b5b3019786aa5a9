-- Each form of the grammar is read with one word of lookahead.
use Rattle.std.proofs.Common.{inl, inr, ℕ, zero, suc, [], refl, rules}
use Rattle.grammar_laws.specs.Form.{AreRight, IsGood}
use Rattle.grammar_laws.proofs.Halted.{sampled}
use Rattle.c_grammar.specs.Forms

unary_right : (n : ℕ) → AreRight Forms.unary_facts (Forms.unary_body n)
unary_right zero = record {
  starts_right = refl;
  continues_right = refl;
  lacks_right = refl;
  some = refl;
  empty_right = λ e. e;
  sample_right = λ rest clear. inr (inr (_, _, refl, inl (_, _, refl, refl, inr refl), ([], refl, tt)));
}
unary_right (suc n) = record {
  starts_right = refl;
  continues_right = refl;
  lacks_right = refl;
  some = refl;
  empty_right = λ e. e;
  sample_right = λ rest clear. inr (inr (_, _, refl, inl (_, _, refl, refl, inr refl), ([], refl, tt)));
}

expr_right : (n : ℕ) → IsGood (Forms.chain_form 6 (Forms.unary_form n))
    → AreRight Forms.expr_facts (Forms.chain_form 6 (Forms.unary_form n))
expr_right n good = record {
  starts_right = refl;
  continues_right = refl;
  lacks_right = refl;
  some = refl;
  empty_right = λ e. e;
  sample_right = λ rest clear. sampled (Forms.chain_form 6 (Forms.unary_form n)) good refl rest clear;
}

expr_over_good : (n : ℕ) → IsGood (Forms.unary_form n) → IsGood (Forms.expr_form n)
expr_over_good n unary =
    let good : IsGood (Forms.chain_form 6 (Forms.unary_form n)) = search unary in
    (good, expr_right n good)

pub unary_good : (n : ℕ) → IsGood (Forms.unary_form n)
unary_good zero = (search rules, unary_right zero)
unary_good (suc n) =
    let expr : IsGood (Forms.expr_form n) = expr_over_good n (unary_good n) in
    (search expr, unary_right (suc n))

pub expr_good : (n : ℕ) → IsGood (Forms.expr_form n)
expr_good n = expr_over_good n (unary_good n)

simple_body_good : (n : ℕ) → IsGood (Forms.simple_body n)
simple_body_good zero = let e = expr_good zero in search e
simple_body_good (suc n) = let e = expr_good (suc n) in let f = expr_good n in search (e, f)

simple_right : (n : ℕ) → AreRight Forms.simple_facts (Forms.simple_body n)
simple_right zero = record {
  starts_right = refl;
  continues_right = refl;
  lacks_right = refl;
  some = refl;
  empty_right = λ e. e;
  sample_right = λ rest clear. inl (_, _, refl, refl, inr (_, _, refl, ([], refl, tt), inr (inl refl)));
}
simple_right (suc n) = record {
  starts_right = refl;
  continues_right = refl;
  lacks_right = refl;
  some = refl;
  empty_right = λ e. e;
  sample_right = λ rest clear. inl (_, _, refl, refl, inr (_, _, refl, ([], refl, tt), inr (inl refl)));
}

pub simple_good : (n : ℕ) → IsGood (Forms.simple_form n)
simple_good n = (simple_body_good n, simple_right n)

clause_body_good : (n : ℕ) → IsGood (Forms.clause_body n)
clause_body_good zero = let e = expr_good zero in search e
clause_body_good (suc n) = let e = expr_good (suc n) in let f = expr_good n in search (e, f)

clause_right : (n : ℕ) → AreRight Forms.clause_facts (Forms.clause_body n)
clause_right zero = record {
  starts_right = refl;
  continues_right = refl;
  lacks_right = refl;
  some = refl;
  empty_right = λ e. e;
  sample_right = λ rest clear. inr (inl (_, _, refl, refl, inr (inr (_, _, refl, ([], refl, tt), inr (inl refl)))));
}
clause_right (suc n) = record {
  starts_right = refl;
  continues_right = refl;
  lacks_right = refl;
  some = refl;
  empty_right = λ e. e;
  sample_right = λ rest clear. inr (inl (_, _, refl, refl, inr (inr (_, _, refl, ([], refl, tt), inr (inl refl)))));
}

pub clause_good : (n : ℕ) → IsGood (Forms.clause_form n)
clause_good n = (clause_body_good n, clause_right n)

flat_good : (n : ℕ) → IsGood (Forms.flat_form n)
flat_good n = let e = expr_good n in let c = clause_good n in search (e, c)

stmt_right : (n : ℕ) → AreRight Forms.stmt_facts (Forms.stmt_body n)
stmt_right zero = record {
  starts_right = refl;
  continues_right = refl;
  lacks_right = refl;
  some = refl;
  empty_right = λ e. e;
  sample_right = λ rest clear. inr (inr (inr (inr (inr (inl refl)))));
}
stmt_right (suc n) = record {
  starts_right = refl;
  continues_right = refl;
  lacks_right = refl;
  some = refl;
  empty_right = λ e. e;
  sample_right = λ rest clear. inr (inr (inr (inr (inr (inl refl)))));
}

pub stmt_good : (n : ℕ) → IsGood (Forms.stmt_form n)
stmt_good zero = let f = flat_good zero in (search f, stmt_right zero)
stmt_good (suc n) =
    let f = flat_good (suc n) in
    let e = expr_good n in
    let c = clause_good n in
    let s = simple_good n in
    let b : IsGood (Forms.stmt_form n) = stmt_good n in
    (search (f, e, c, s, b), stmt_right (suc n))

item_right : (n : ℕ) → AreRight Forms.item_facts (Forms.item_body n)
item_right zero = record {
  starts_right = refl;
  continues_right = refl;
  lacks_right = refl;
  some = refl;
  empty_right = λ e. e;
  sample_right =
      λ rest clear. inl
      (_, _, refl, refl, (_, _, refl, refl, inl (_, _, refl, (_, _, refl, refl, (_, _, refl, ([], refl, tt), refl)), refl)));
}
item_right (suc n) = record {
  starts_right = refl;
  continues_right = refl;
  lacks_right = refl;
  some = refl;
  empty_right = λ e. e;
  sample_right =
      λ rest clear. inl
      (_, _, refl, refl, (_, _, refl, refl, inl (_, _, refl, (_, _, refl, refl, (_, _, refl, ([], refl, tt), refl)), refl)));
}

pub item_good : (n : ℕ) → IsGood (Forms.item_form n)
item_good zero = (search rules, item_right zero)
item_good (suc n) = let s = stmt_good n in (search s, item_right (suc n))

pub file_good : (n : ℕ) → IsGood (Forms.file_form n)
file_good n = let i = item_good n in search i
