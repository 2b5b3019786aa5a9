-- The tests for sameness answer whether two values are the same.
use Rattle.std.specs.Prelude.{◌≡◌, Bool, Decides, ◌==◌, ◌&&◌, List}
use Rattle.std.specs.Cmp.Lexicographic.{pointwise}
use Rattle.std.specs.Str.{bytes_eq}
use Rattle.std.proofs.Common.{refl, ap}
use Rattle.std.proofs.lemmas.Bool.Decides.{Decides-and, Decides-eqb, Decides-like}
use Rattle.std.proofs.lemmas.Slice.Eq.{bytes_eq-Decides, slice_eq-Decides}
use Rattle.shape_data.specs.declared.symbolic.Atom.{Atom}
use Rattle.shape_data.specs.declared.symbolic.Atom.TheVariants.{Points, Seg, Junk}
use Rattle.shape_data.specs.declared.symbolic.Fact.{Fact}
use Rattle.shape_data.specs.declared.symbolic.Fact.TheVariants.{Eq, Ne}
use Rattle.shape_data.specs.declared.symbolic.Post.{Post}
use Rattle.shape_data.specs.declared.symbolic.SymHeap.{SymHeap}
use Rattle.shape_data.specs.declared.symbolic.SymState.{SymState}
use Rattle.sym_parts.specs.Laws.Expressions.{same_exp}
use Rattle.sym_parts.proofs.LawsLemmas.ExpressionLemmas.{same_exp-Decides}
use Rattle.solve_laws.specs.Certificates.Sameness.{same_atom, same_fact, same_heap, same_post, same_state}

-- two lists are the same where the test of their things is exact
lists : {A : Type 0} {E : A → A → Bool} → ((x y : A) → Decides (E x y) (x ≡ y)) → (xs ys : List A) → Decides (pointwise E xs ys) (xs ≡ ys)
lists decides xs ys = slice_eq-Decides decides xs ys _ refl

pub same_fact-Decides : (x y : Fact) → Decides (same_fact x y) (x ≡ y)
same_fact-Decides (Eq e f) (Eq g h) =
    Decides-like (same_exp e g && same_exp f h) (λ both. λ i. Eq (both.0 i) (both.1 i)) (λ same. (cc, cc))
    (Decides-and (same_exp e g) (same_exp f h) (same_exp-Decides e g) (same_exp-Decides f h))
same_fact-Decides (Eq e f) (Ne g h) = (λ t. cc, λ t. cc)
same_fact-Decides (Ne e f) (Eq g h) = (λ t. cc, λ t. cc)
same_fact-Decides (Ne e f) (Ne g h) =
    Decides-like (same_exp e g && same_exp f h) (λ both. λ i. Ne (both.0 i) (both.1 i)) (λ same. (cc, cc))
    (Decides-and (same_exp e g) (same_exp f h) (same_exp-Decides e g) (same_exp-Decides f h))

pub same_atom-Decides : (x y : Atom) → Decides (same_atom x y) (x ≡ y)
same_atom-Decides (Points at kind fields) (Points place other values) =
    Decides-like (same_exp at place && bytes_eq kind other && pointwise same_exp fields values)
    (λ all. λ i. Points (all.0.0 i) (all.0.1 i) (all.1 i)) (λ same. ((cc, cc), cc))
    (Decides-and (same_exp at place && bytes_eq kind other) (pointwise same_exp fields values)
    (Decides-and (same_exp at place) (bytes_eq kind other) (same_exp-Decides at place) (bytes_eq-Decides kind other))
    (lists same_exp-Decides fields values))
same_atom-Decides (Points at kind fields) (Seg other field start end) = (λ t. cc, λ t. cc)
same_atom-Decides (Points at kind fields) Junk = (λ t. cc, λ t. cc)
same_atom-Decides (Seg kind link from to) (Points place other values) = (λ t. cc, λ t. cc)
same_atom-Decides (Seg kind link from to) (Seg other field start end) =
    Decides-like (bytes_eq kind other && link == field && same_exp from start && same_exp to end)
    (λ all. λ i. Seg (all.0.0.0 i) (all.0.0.1 i) (all.0.1 i) (all.1 i)) (λ same. (((cc, cc), cc), cc))
    (Decides-and (bytes_eq kind other && link == field && same_exp from start) (same_exp to end)
    (Decides-and (bytes_eq kind other && link == field) (same_exp from start)
    (Decides-and (bytes_eq kind other) (link == field) (bytes_eq-Decides kind other) (Decides-eqb link field))
    (same_exp-Decides from start))
    (same_exp-Decides to end))
same_atom-Decides (Seg kind link from to) Junk = (λ t. cc, λ t. cc)
same_atom-Decides Junk (Points place other values) = (λ t. cc, λ t. cc)
same_atom-Decides Junk (Seg other field start end) = (λ t. cc, λ t. cc)
same_atom-Decides Junk Junk = (λ t. refl, λ t. refl)

pub same_heap-Decides : (a b : SymHeap) → Decides (same_heap a b) (a ≡ b)
same_heap-Decides a b =
    Decides-like (same_heap a b) (λ both. λ i. record { pure = both.0 i; spatial = both.1 i })
    (λ same. (ap (λ (h : SymHeap). h.pure) same, ap (λ (h : SymHeap). h.spatial) same))
    (Decides-and (pointwise same_fact a.pure b.pure) (pointwise same_atom a.spatial b.spatial) (lists same_fact-Decides a.pure b.pure)
    (lists same_atom-Decides a.spatial b.spatial))

pub same_state-Decides : (a b : SymState) → Decides (same_state a b) (a ≡ b)
same_state-Decides a b =
    Decides-like (same_state a b) (λ both. λ i. record { locals = both.0 i; heap = both.1 i })
    (λ same. (ap (λ (s : SymState). s.locals) same, ap (λ (s : SymState). s.heap) same))
    (Decides-and (pointwise same_exp a.locals b.locals) (same_heap a.heap b.heap) (lists same_exp-Decides a.locals b.locals)
    (same_heap-Decides a.heap b.heap))

pub same_post-Decides : (a b : Post) → Decides (same_post a b) (a ≡ b)
same_post-Decides a b =
    Decides-like (same_post a b) (λ both. λ i. record { ret = both.0 i; heap = both.1 i })
    (λ same. (ap (λ (p : Post). p.ret) same, ap (λ (p : Post). p.heap) same))
    (Decides-and (same_exp a.ret b.ret) (same_heap a.heap b.heap) (same_exp-Decides a.ret b.ret) (same_heap-Decides a.heap b.heap))
