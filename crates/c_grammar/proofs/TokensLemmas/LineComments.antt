-- Where a `//` comment ends: the scan finds the first line feed that is no part of a splice.
use Rattle.std.proofs.Common.{◌≡◌, ℕ, zero, suc, ◌+◌, Bool, true, false, cond, List, [], ◌∷◌, ◌++◌, length, replicate, inl, inr, ◌⊎◌, refl}
use Rattle.std.proofs.Common.{sym, ap, ◌∙◌, subst, append_assoc, arith}
use Rattle.std.specs.Prelude.{◌==◌, ◌&&◌, ◌||◌, not, codes}
use Rattle.std.proofs.lemmas.Bool.{eqb-true}
use Rattle.std.proofs.lemmas.List.{append-nil, same_from_push, replicate_more}
use Rattle.c_grammar.specs.Tokens.Gaps.{EndsInBackslash, IsLineComment}
use Rattle.c_grammar.specs.Tokens.Scan.{line_end}
use Rattle.c_grammar.proofs.TokensLemmas.Booleans.{cond_true, cond_false}

-- whether a line feed behind the front is part of a splice
pub record Joins (front : List ℕ) (joined : Bool) : Type 0 where
  pub yes : joined ≡ true → EndsInBackslash front
  pub no : joined ≡ false → ¬ EndsInBackslash front

one_more : (n : ℕ) → n + 1 ≡ suc n
one_more n = omega arith

-- the byte before the last carriage return, or the last one
ends_more : (front : List ℕ) (b : ℕ) → EndsInBackslash (front ++ b ∷ []) → (b ≡ 92) ⊎ ((b ≡ 13) × EndsInBackslash front)
ends_more front b (before, returns, e) = by returns e
  where
    by : (returns : ℕ) → front ++ b ∷ [] ≡ before ++ 92 ∷ replicate returns 13 → (b ≡ 92) ⊎ ((b ≡ 13) × EndsInBackslash front)
    by zero e = inl (same_from_push front before b 92 e).1
    by (suc n) e =
        let last : 92 ∷ replicate (suc n) 13 ≡ (92 ∷ replicate n 13) ++ 13 ∷ [] =
        ap (λ l. 92 ∷ l) (sym (replicate_more n 13 ∙ ap (λ k. replicate k 13) (one_more n))) in
        let same =
        same_from_push front (before ++ 92 ∷ replicate n 13) b 13
        (e ∙ ap (λ l. before ++ l) last ∙ sym (append_assoc before (92 ∷ replicate n 13) (13 ∷ []))) in
        inr (same.1, (before, n, same.0))

joins_start : Joins [] false
joins_start = record {
  yes = λ e. absurd cc;
  no = λ e (front, returns, is). by front returns is;
}
  where
    by : (front : List ℕ) (returns : ℕ) → [] ≡ front ++ 92 ∷ replicate returns 13 → ⊥
    by [] returns e = absurd cc
    by (x ∷ front) returns e = absurd cc

joins_more : (front : List ℕ) (joined : Bool) (b : ℕ) → Joins front joined → Joins (front ++ b ∷ []) (b == 92 || (joined && b == 13))
joins_more front joined b joins = record {
  yes = λ e. yes (b == 92) refl e;
  no = λ e is. no e (ends_more front b is);
}
  where
    later : (c d : Bool) → joined ≡ c → (b == 13) ≡ d → (c && d) ≡ true → EndsInBackslash (front ++ b ∷ [])
    later true true is return e =
        let (before, returns, same) = joins.yes is in (
          before,
          suc returns,
          ap (λ l. l ++ b ∷ []) same ∙ ap (λ x. (before ++ 92 ∷ replicate returns 13) ++ x ∷ []) (eqb-true b 13 return)
              ∙ append_assoc before (92 ∷ replicate returns 13) (13 ∷ [])
              ∙ ap (λ l. before ++ 92 ∷ l) (replicate_more returns 13 ∙ ap (λ k. replicate k 13) (one_more returns)),
        )
    later true false is return e = absurd cc
    later false d is return e = absurd cc

    yes : (c : Bool) → (b == 92) ≡ c → (b == 92 || (joined && b == 13)) ≡ true → EndsInBackslash (front ++ b ∷ [])
    yes true back e = (front, 0, ap (λ x. front ++ x ∷ []) (eqb-true b 92 back))
    yes false back e = later joined (b == 13) refl refl (sym (ap (λ t. t || (joined && b == 13)) back) ∙ e)

    no : (b == 92 || (joined && b == 13)) ≡ false → (b ≡ 92) ⊎ ((b ≡ 13) × EndsInBackslash front) → ⊥
    no e (inl is) = let f : (92 == 92 || (joined && 92 == 13))
        ≡ false = subst (λ x. (x == 92 || (joined && x == 13)) ≡ false) is e in absurd cc
    no e (inr (is, ends)) = joins.no (free joined refl) ends
      where
        free : (c : Bool) → joined ≡ c → joined ≡ false
        free true is_joined = let f : (joined && true) ≡ false = subst (λ x. (x == 92 || (joined && x == 13)) ≡ false) is e in let g : true
            ≡ false = sym (ap (λ t. t && true) is_joined) ∙ f in absurd cc
        free false is_joined = is_joined

-- each line feed of the bytes, behind this front, is part of a splice
abbrev pub Spliced : List ℕ → List ℕ → Type 0
Spliced before body = (front back : List ℕ) → body ≡ front ++ 10 ∷ back → EndsInBackslash (before ++ front)

spliced_more : (before : List ℕ) (b : ℕ) (body : List ℕ) → (b ≡ 10 → EndsInBackslash before) → Spliced (before ++ b ∷ []) body
    → Spliced before (b ∷ body)
spliced_more before b body first others [] back e = subst EndsInBackslash (sym (append-nil before)) (first cc)
spliced_more before b body first others (x ∷ front) back e =
    let head : b ≡ x = cc in
    let tail : body ≡ front ++ 10 ∷ back = cc in
    subst EndsInBackslash (append_assoc before (b ∷ []) front ∙ ap (λ y. before ++ y ∷ front) head) (others front back tail)

-- where a comment that reaches the bytes ends
pub record EndsLine (before : List ℕ) (place : ℕ) (bytes : List ℕ) (end : ℕ) : Type 0 where
  pub body : List ℕ
  pub behind : List ℕ
  pub is : bytes ≡ body ++ behind
  pub end_is : end ≡ place + length body
  pub spliced : Spliced before body
  pub ends : (behind ≡ []) ⊎ ((rest : List ℕ) × (behind ≡ 10 ∷ rest) × ¬ EndsInBackslash (before ++ body))

none_spliced : (before : List ℕ) → Spliced before []
none_spliced before [] back e = absurd cc
none_spliced before (x ∷ front) back e = absurd cc

feed_free : (c d : Bool) → (c && not d) ≡ true → (c ≡ true) × (d ≡ false)
feed_free true true e = absurd cc
feed_free true false e = (refl, refl)
feed_free false d e = absurd cc

feed_joined : (c d : Bool) → (c && not d) ≡ false → c ≡ true → d ≡ true
feed_joined true true e f = refl
feed_joined true false e f = absurd cc
feed_joined false d e f = absurd cc

ends_here : (before : List ℕ) (place b : ℕ) (bytes : List ℕ) (joined : Bool) → Joins before joined → (b == 10 && not joined) ≡ true
    → EndsLine before place (b ∷ bytes) place
ends_here before place b bytes joined joins e =
    let tests = feed_free (b == 10) joined e in
    record {
      body = [];
      behind = b ∷ bytes;
      is = refl;
      end_is = omega arith;
      spliced = none_spliced before;
      ends =
          inr (
            bytes,
            ap (λ x. x ∷ bytes) (eqb-true b 10 tests.0),
            λ ends. joins.no tests.1
                (subst EndsInBackslash (append-nil before) ends),
          );
    }

ends_later : (before : List ℕ) (place b : ℕ) (bytes : List ℕ) (joined : Bool) (end : ℕ) → Joins before joined
    → (b == 10 && not joined) ≡ false → EndsLine (before ++ b ∷ []) (place + 1) bytes end → EndsLine before place (b ∷ bytes) end
ends_later before place b bytes joined end joins e later = record {
  body = b ∷ later.body;
  behind = later.behind;
  is = ap (λ l. b ∷ l) later.is;
  end_is = later.end_is ∙ (let l = length later.body in omega arith);
  spliced =
      spliced_more before b later.body
      (λ feed. joins.yes (feed_joined (b == 10) joined e (subst (λ x. (x == 10) ≡ true) (sym feed) refl))) later.spliced;
  ends = by later.ends;
}
  where
    by : (later.behind ≡ []) ⊎ ((rest : List ℕ) × (later.behind ≡ 10 ∷ rest) × ¬ EndsInBackslash ((before ++ b ∷ []) ++ later.body))
        → (later.behind ≡ []) ⊎ ((rest : List ℕ) × (later.behind ≡ 10 ∷ rest) × ¬ EndsInBackslash (before ++ b ∷ later.body))
    by (inl none) = inl none
    by (inr (rest, is, free)) = inr (rest, is, λ ends. free (subst EndsInBackslash (sym (append_assoc before (b ∷ []) later.body)) ends))

-- the scan finds the end of the line
line_found : (bytes before : List ℕ) (place : ℕ) (joined : Bool) → Joins before joined
    → EndsLine before place bytes (line_end place joined bytes)
line_found [] before place joined joins = record {
  body = [];
  behind = [];
  is = refl;
  end_is = omega arith;
  spliced = none_spliced before;
  ends = inl refl;
}
line_found (b ∷ bytes) before place joined joins =
    by (line_found bytes (before ++ b ∷ []) (place + 1) _ (joins_more before joined b joins)) (b == 10 && not joined) refl
  where
    by : EndsLine (before ++ b ∷ []) (place + 1) bytes (line_end (place + 1) (b == 92 || (joined && b == 13)) bytes) → (c : Bool)
        → (b == 10 && not joined) ≡ c
        → EndsLine before place (b ∷ bytes)
        (cond (b == 10 && not joined) place (line_end (place + 1) (b == 92 || (joined && b == 13)) bytes))
    by later true e =
        subst (EndsLine before place (b ∷ bytes)) (sym (cond_true (b == 10 && not joined) _ _ e))
        (ends_here before place b bytes joined joins e)
    by later false e =
        subst (EndsLine before place (b ∷ bytes)) (sym (cond_false (b == 10 && not joined) _ _ e))
        (ends_later before place b bytes joined _ joins e later)

-- the comment that the scan finds
pub scanned_line : (bytes : List ℕ)
    → (body behind : List ℕ) × (bytes ≡ body ++ behind) × (line_end 0 false bytes ≡ length body) × IsLineComment (codes "//" ++ body) behind
scanned_line bytes =
    let found = line_found bytes [] 0 false joins_start in (
      found.body,
      found.behind,
      found.is,
      found.end_is
          ∙ (let l = length found.body in omega arith),
      record { body = found.body; is = refl; spliced = found.spliced; ends = found.ends },
    )

-- a comment ends where the scan says
pub line_ends : (body behind before : List ℕ) (place : ℕ) (joined : Bool) → Joins before joined → Spliced before body
    → ((behind ≡ []) ⊎ ((rest : List ℕ) × (behind ≡ 10 ∷ rest) × ¬ EndsInBackslash (before ++ body)))
    → line_end place joined (body ++ behind) ≡ place + length body
line_ends [] behind before place joined joins spliced (inl none) = ap (line_end place joined) none ∙ (omega arith)
line_ends [] behind before place joined joins spliced (inr (rest, is, free)) = ap (line_end place joined) is ∙ stop joined joins
  where
    stop : (c : Bool) → Joins before c → line_end place c (10 ∷ rest) ≡ place + 0
    stop true j = absurd (free (subst EndsInBackslash (sym (append-nil before)) (j.yes refl)))
    stop false j = omega arith
line_ends (b ∷ body) behind before place joined joins spliced ends =
    cond_false (b == 10 && not joined) place _ (goes_on (b == 10) joined refl refl)
    ∙ line_ends body behind (before ++ b ∷ []) (place + 1) _ (joins_more before joined b joins) spliced_rest (ends_rest ends)
    ∙ (let l = length body in omega arith)
  where
    goes_on : (c d : Bool) → (b == 10) ≡ c → joined ≡ d → (b == 10 && not joined) ≡ false
    goes_on false d e f = ap (λ t. t && not joined) e
    goes_on true true e f = ap (λ t. t && not joined) e ∙ ap not f
    goes_on true false e f =
        absurd (joins.no f (subst EndsInBackslash (append-nil before) (spliced [] body (ap (λ x. x ∷ body) (eqb-true b 10 e)))))

    spliced_rest : Spliced (before ++ b ∷ []) body
    spliced_rest front back e =
        subst EndsInBackslash (sym (append_assoc before (b ∷ []) front)) (spliced (b ∷ front) back (ap (λ l. b ∷ l) e))

    ends_rest : ((behind ≡ []) ⊎ ((rest : List ℕ) × (behind ≡ 10 ∷ rest) × ¬ EndsInBackslash (before ++ b ∷ body)))
        → (behind ≡ []) ⊎ ((rest : List ℕ) × (behind ≡ 10 ∷ rest) × ¬ EndsInBackslash ((before ++ b ∷ []) ++ body))
    ends_rest (inl none) = inl none
    ends_rest (inr (rest, is, free)) = inr (rest, is, λ ends. free (subst EndsInBackslash (append_assoc before (b ∷ []) body) ends))

-- the scan of a comment's body, with what stands behind
pub line_scanned : (comment behind : List ℕ) (is : IsLineComment comment behind) → line_end 0 false (is.body ++ behind) ≡ length is.body
line_scanned comment behind is =
    line_ends is.body behind [] 0 false joins_start is.spliced is.ends ∙ (let l = length is.body in omega arith)
