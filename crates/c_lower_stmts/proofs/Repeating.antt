-- Loops that are put together.
use Rattle.std.proofs.Common.{◌≡◌, ℕ, ◌+◌, ◌<◌, ◌≤◌, List, [], ◌∷◌, ◌++◌, length, map, take, drop, refl, sym, ap, ◌∙◌, subst, append_assoc}
use Rattle.std.proofs.Common.{arith}
use Rattle.std.proofs.lemmas.List.{length-append}
use Rattle.c_lower_rules.specs.Code.{onto, Code, Test, Loop, within, step_entry, repeat, repeat_first}
use Rattle.c_lower_rules.specs.Temporaries.{Temp}
use Rattle.c_lower_emit.specs.declared.drafts.Label.{Label}
use Rattle.c_lower_emit.specs.declared.drafts.Label.TheVariants.{At}
use Rattle.c_lower_emit.specs.declared.drafts.Ways.{Ways}
use Rattle.c_lower_emit.specs.Drafts.{Places, exits, resolve, redirect, redirected}
use Rattle.c_lower_emit.specs.Emitting.{Out, led_out, with_loop, Grows, EmitsTest, EmitsCode}
use Rattle.c_lower_emit.proofs.Leading.{led, resolve_led, all_led}
use Rattle.c_lower_emit.proofs.Joining.{behind_nodes, grows_led, grows_led_behind, grows_same, laid_both}
use Rattle.c_lower_stmts.specs.Loops.{all_to, round, tested}

-- a loop among those that were there, and those within it
insert_front : {A : Type 0} (xs ys : List A) (x : A) → take (length xs) (xs ++ ys) ++ x ∷ drop (length xs) (xs ++ ys) ≡ xs ++ x ∷ ys
insert_front [] ys x = refl
insert_front (z ∷ xs) ys x = ap (λ zs. z ∷ zs) (insert_front xs ys x)

grows_with_loop : {count : ℕ} {t : List Temp} (ds : List _) (o n : Out) (place : ℕ) (loop : Loop) → Grows count t ds o n
    → Grows count t ds o (with_loop place loop n)
grows_with_loop ds o n place loop h = record { nodes = h.nodes; size = h.size; temps = h.temps; grown = h.grown }

-- the nodes that are led, from the last piece to the first
abbrev pub closed_out : ℕ → ℕ → ℕ → ℕ → Label → Label → Out → Out
closed_out head body step past body_begin step_begin n =
    led_out head body (tested (redirect (round (redirect (all_to (At head)) step_begin)) body_begin))
    (led_out body step (round (redirect (all_to (At head)) step_begin))
    (led_out step past (all_to (At head)) n))

pub repeated : (visible : List ℕ) (t : Test) (b s : Code) (u v x : List Temp) (body_begin step_begin : Label) (o m n now : Out)
    → EmitsTest t u o m → EmitsCode b v body_begin m n → EmitsCode s x step_begin n now
    → EmitsCode (repeat visible t b s) x (At (length o.nodes)) o
    (with_loop (length o.loops) (record { head = length o.nodes; past = length now.nodes; visible = visible })
    (closed_out (length o.nodes) (length m.nodes) (length n.nodes) (length now.nodes) body_begin step_begin now))
repeated visible t b s u v x body_begin step_begin o m n now h k l =
    let head = length o.nodes in
    let to_head = all_to (At head) in
    let again = redirect to_head step_begin in
    let ways = round again in
    let begin = redirect ways body_begin in
    let test_ways = tested begin in
    let at = behind_nodes o m h.grows in
    let at' : length n.nodes ≡ head + t.size + b.size = behind_nodes m n k.grows ∙ ap (λ y. y + b.size) at in
    let past : length now.nodes ≡ head + t.size + b.size + s.size = behind_nodes n now l.grows ∙ ap (λ y. y + s.size) at' in
    let sizes : t.size + (b.size + s.size) ≡ t.size + b.size + s.size = omega arith in
    let g1 = grows_led to_head n now l.grows in
    let g2 = grows_led_behind ways m n (led_out (length n.nodes) (length now.nodes) to_head now) k.grows g1 in
    let g3 =
    grows_led_behind test_ways o m
    (led_out (length m.nodes) (length n.nodes) ways (led_out (length n.nodes) (length now.nodes) to_head now)) h.grows g2 in
    let loop : Loop = record { head = head; past = length now.nodes; visible = visible } in
    let again_is : (p : Places) → resolve p again ≡ step_entry t b s head =
    λ p. resolve_led p to_head step_begin ∙ l.entry (led p to_head) ∙ ap (λ y. s.entry y (onto head)) at' in
    let within_is : (p : Places) → exits (led p ways) ≡ within (step_entry t b s head) (exits p) =
    λ p. ap (λ y. within y (exits p)) (again_is p) in
    record {
      drafts = map (redirected test_ways) h.drafts ++ (map (redirected ways) k.drafts ++ map (redirected to_head) l.drafts);
      grows = grows_with_loop _ o _ (length o.loops) loop (grows_same o _ sizes g3);
      laid = λ p.
          laid_both p (map (redirected test_ways) h.drafts) (map (redirected ways) k.drafts ++ map (redirected to_head) l.drafts) _ _
          (all_led p test_ways h.drafts ∙ h.laid (led p test_ways)
          ∙ ap (λ e. t.nodes head e p.next)
          (resolve_led p ways body_begin ∙ k.entry (led p ways) ∙ ap (λ e. b.entry (length m.nodes) e) (within_is p)
          ∙ ap (λ y. b.entry y (within (step_entry t b s head) (exits p))) at))
          (laid_both p (map (redirected ways) k.drafts) (map (redirected to_head) l.drafts) _ _
          (all_led p ways k.drafts ∙ k.laid (led p ways) ∙ ap (λ e. b.nodes (length m.nodes) e) (within_is p)
          ∙ ap (λ y. b.nodes y (within (step_entry t b s head) (exits p))) at)
          (all_led p to_head l.drafts ∙ l.laid (led p to_head) ∙ ap (λ y. s.nodes y (onto head)) at'))
          ∙ sym (append_assoc (t.nodes head (b.entry (head + t.size) (within (step_entry t b s head) (exits p))) p.next)
          (b.nodes (head + t.size) (within (step_entry t b s head) (exits p))) (s.nodes (head + t.size + b.size) (onto head)));
      entry = λ p. refl;
      loops =
          ap (λ ls. take (length o.loops) ls ++ loop ∷ drop (length o.loops) ls)
          (l.loops ∙ ap (λ ls. ls ++ s.loops (length n.nodes)) (k.loops ∙ ap (λ ls. ls ++ b.loops (length m.nodes)) h.loops)
          ∙ append_assoc o.loops (b.loops (length m.nodes)) (s.loops (length n.nodes)))
          ∙ insert_front o.loops (b.loops (length m.nodes) ++ s.loops (length n.nodes)) loop
          ∙ ap (λ y. o.loops ++ record { head = head; past = y; visible = visible }
          ∷ (b.loops (length m.nodes) ++ s.loops (length n.nodes))) past
          ∙ ap (λ y. o.loops ++ record { head = head; past = head + t.size + b.size + s.size; visible = visible }
          ∷ (b.loops y ++ s.loops (length n.nodes))) at
          ∙ ap (λ y. o.loops ++ record { head = head; past = head + t.size + b.size + s.size; visible = visible }
          ∷ (b.loops (head + t.size) ++ s.loops y)) at';
    }

pub repeated_first : (visible : List ℕ) (t : Test) (b : Code) (u v : List Temp) (body_begin : Label) (o m now : Out)
    → EmitsCode b u body_begin o m → EmitsTest t v m now
    → EmitsCode (repeat_first visible b t) v (redirect (round (At (length m.nodes))) body_begin) o
    (with_loop (length o.loops) (record { head = length o.nodes; past = length now.nodes; visible = visible })
    (led_out (length o.nodes) (length m.nodes) (round (At (length m.nodes)))
    (led_out (length m.nodes) (length now.nodes) (tested (redirect (round (At (length m.nodes))) body_begin)) now)))
repeated_first visible t b u v body_begin o m now h k =
    let head = length o.nodes in
    let ways = round (At (length m.nodes)) in
    let begin = redirect ways body_begin in
    let test_ways = tested begin in
    let at = behind_nodes o m h.grows in
    let past : length now.nodes ≡ head + b.size + t.size = behind_nodes m now k.grows ∙ ap (λ y. y + t.size) at in
    let g1 = grows_led test_ways m now k.grows in
    let g2 = grows_led_behind ways o m (led_out (length m.nodes) (length now.nodes) test_ways now) h.grows g1 in
    let loop : Loop = record { head = head; past = length now.nodes; visible = visible } in
    let within_is : (p : Places) → exits (led p ways) ≡ within (head + b.size) (exits p) = λ p. ap (λ y. within y (exits p)) at in
    record {
      drafts = map (redirected ways) h.drafts ++ map (redirected test_ways) k.drafts;
      grows = grows_with_loop _ o _ (length o.loops) loop g2;
      laid = λ p.
          laid_both p (map (redirected ways) h.drafts) (map (redirected test_ways) k.drafts) _ _
          (all_led p ways h.drafts ∙ h.laid (led p ways) ∙ ap (b.nodes head) (within_is p))
          (all_led p test_ways k.drafts ∙ k.laid (led p test_ways)
          ∙ ap (λ y. t.nodes y (resolve p begin) p.next) at
          ∙ ap (λ e. t.nodes (head + b.size) e p.next)
          (resolve_led p ways body_begin ∙ h.entry (led p ways) ∙ ap (b.entry head) (within_is p)));
      entry = λ p. resolve_led p ways body_begin ∙ h.entry (led p ways) ∙ ap (b.entry head) (within_is p);
      loops =
          ap (λ ls. take (length o.loops) ls ++ loop ∷ drop (length o.loops) ls) (k.loops ∙ h.loops)
          ∙ insert_front o.loops (b.loops head) loop
          ∙ ap (λ y. o.loops ++ record { head = head; past = y; visible = visible } ∷ b.loops head) past;
    }

-- THE SAME, step by step as it is done

-- nodes that are led are as many
module _ (w : Ways) {count : ℕ} {t : List Temp} {ds : List _} (o n : Out) (h : Grows count t ds o n) where
  as_many : length (led_out (length o.nodes) (length n.nodes) w n).nodes ≡ length n.nodes
  as_many = behind_nodes o (led_out (length o.nodes) (length n.nodes) w n) (grows_led w o n h) ∙ sym (behind_nodes o n h)

as_many_behind : (w : Ways) {a b : ℕ} {s t : List Temp} {ds es : List _} (o m n : Out) → Grows a s ds o m → Grows b t es m n
    → length (led_out (length o.nodes) (length m.nodes) w n).nodes ≡ length n.nodes
as_many_behind w {a = a} {b = b} o m n h k =
    let one = behind_nodes o m h in
    let two = behind_nodes m n k in
    let all = behind_nodes o (led_out (length o.nodes) (length m.nodes) w n) (grows_led_behind w o m n h k) in
    omega (arith, one, two, all)

more_loops : (xs ys : List Loop) (zs : List Loop) → zs ≡ xs ++ ys → length xs ≤ length zs
more_loops xs ys zs is = let e = ap length is ∙ length-append xs ys in omega (arith, e)

pub closed_at : (visible : List ℕ) (t : Test) (b s : Code) (u v x : List Temp) (body_begin step_begin : Label)
    (o m n now n1 n2 n3 new : Out) (head index body step past : ℕ)
    (to_head ways : Ways) (hd again begin : Label)
    → head ≡ length o.nodes → index ≡ length o.loops → body ≡ length m.nodes → step ≡ length n.nodes → past ≡ length now.nodes
    → length now.nodes < 4294967296
    → EmitsTest t u o m → EmitsCode b v body_begin m n → EmitsCode s x step_begin n now
    → (head < 4294967296 → hd ≡ At head) → to_head ≡ all_to hd
    → (step ≤ past → past ≤ length now.nodes → n1 ≡ led_out step past to_head now)
    → again ≡ redirect to_head step_begin → ways ≡ round again → (body ≤ step → step ≤ length n1.nodes → n2 ≡ led_out body step ways n1)
    → begin ≡ redirect ways body_begin → (head ≤ body → body ≤ length n2.nodes → n3 ≡ led_out head body (tested begin) n2)
    → (index ≤ length n3.loops → head < 4294967296 → length n3.nodes < 4294967296
    → new ≡ with_loop index (record { head = head; past = length n3.nodes; visible = visible }) n3)
    → EmitsCode (repeat visible t b s) x (At (length o.nodes)) o new
closed_at visible t b s u v x body_begin step_begin o m n now n1 n2 n3 new head index body step past to_head ways hd again begin at_head
    at_index at_body at_step at_past small h k l
    hd_is to_head_is leads1 again_is ways_is leads2 begin_is leads3 adds =
    let a = behind_nodes o m h.grows in
    let a' = behind_nodes m n k.grows in
    let a'' = behind_nodes n now l.grows in
    let hd' : hd ≡ At (length o.nodes) = hd_is (omega (arith, at_head, a, a', a'', small)) ∙ ap At at_head in
    let to_head' : to_head ≡ all_to (At (length o.nodes)) = to_head_is ∙ ap all_to hd' in
    let again' : again ≡ redirect (all_to (At (length o.nodes))) step_begin = again_is ∙ ap (λ w. redirect w step_begin) to_head' in
    let ways' : ways ≡ round (redirect (all_to (At (length o.nodes))) step_begin) = ways_is ∙ ap round again' in
    let begin' : begin ≡ redirect (round (redirect (all_to (At (length o.nodes))) step_begin)) body_begin =
    begin_is ∙ ap (λ w. redirect w body_begin) ways' in
    let w1 = all_to (At (length o.nodes)) in
    let w2 = round (redirect w1 step_begin) in
    let w3 = tested (redirect w2 body_begin) in
    let g1 = grows_led w1 n now l.grows in
    let o1 = led_out (length n.nodes) (length now.nodes) w1 now in
    let g2 = grows_led_behind w2 m n o1 k.grows g1 in
    let o2 = led_out (length m.nodes) (length n.nodes) w2 o1 in
    let many1 : length o1.nodes ≡ length now.nodes = as_many w1 n now l.grows in
    let many2 : length o2.nodes ≡ length o1.nodes = as_many_behind w2 m n o1 k.grows g1 in
    let o3 = led_out (length o.nodes) (length m.nodes) w3 o2 in
    let many3 : length o3.nodes ≡ length o2.nodes = as_many_behind w3 o m o2 h.grows g2 in
    let n1_is : n1 ≡ o1 =
    leads1 (omega (arith, at_step, at_past, a'')) (omega (arith, at_past))
    ∙ ap (λ y. led_out y past to_head now) at_step ∙ ap (λ y. led_out (length n.nodes) y to_head now) at_past
    ∙ ap (λ w. led_out (length n.nodes) (length now.nodes) w now) to_head' in
    let size1 = ap (λ (y : Out). length y.nodes) n1_is in
    let n2_is : n2 ≡ o2 =
    leads2 (omega (arith, at_body, at_step, a')) (omega (arith, at_step, size1, many1, a''))
    ∙ ap (λ y. led_out y step ways n1) at_body ∙ ap (λ y. led_out (length m.nodes) y ways n1) at_step
    ∙ ap (λ w. led_out (length m.nodes) (length n.nodes) w n1) ways'
    ∙ ap (led_out (length m.nodes) (length n.nodes) w2) n1_is in
    let size2 = ap (λ (y : Out). length y.nodes) n2_is in
    let n3_is : n3 ≡ o3 =
    leads3 (omega (arith, at_head, at_body, a)) (omega (arith, at_body, size2, many1, many2, a', a''))
    ∙ ap (λ y. led_out y body (tested begin) n2) at_head ∙ ap (λ y. led_out (length o.nodes) y (tested begin) n2) at_body
    ∙ ap (λ e. led_out (length o.nodes) (length m.nodes) (tested e) n2) begin' ∙ ap (led_out (length o.nodes) (length m.nodes) w3) n2_is in
    let size3 = ap (λ (y : Out). length y.nodes) n3_is in
    let total : length n3.nodes ≡ length now.nodes = omega (arith, size3, many1, many2, many3) in
    let loops3 = ap (λ (y : Out). length y.loops) n3_is in
    let l1 = more_loops o.loops (b.loops (length m.nodes)) n.loops (k.loops ∙ ap (λ ls. ls ++ b.loops (length m.nodes)) h.loops) in
    let l2 = more_loops n.loops (s.loops (length n.nodes)) now.loops l.loops in
    let is = adds (omega (arith, at_index, loops3, l1, l2)) (omega (arith, at_head, a, a', a'', small)) (omega (arith, total, small)) in
    let same : new ≡ with_loop (length o.loops) (record { head = length o.nodes; past = length now.nodes; visible = visible }) o3 =
    is ∙ ap (λ y. with_loop y (record { head = head; past = length n3.nodes; visible = visible }) n3) at_index
    ∙ ap (λ y. with_loop (length o.loops) (record { head = y; past = length n3.nodes; visible = visible }) n3) at_head
    ∙ ap (λ y. with_loop (length o.loops) (record { head = length o.nodes; past = y; visible = visible }) n3) total
    ∙ ap (with_loop (length o.loops) (record { head = length o.nodes; past = length now.nodes; visible = visible })) n3_is in
    subst (λ y. EmitsCode (repeat visible t b s) x (At (length o.nodes)) o y) (sym same)
    (repeated visible t b s u v x body_begin step_begin o m n now h k l)

pub closed_behind_at : (visible : List ℕ) (t : Test) (b : Code) (u v : List Temp) (body_begin : Label) (o m now n1 n2 new : Out)
    (head index test past : ℕ) (ways : Ways) (tt' begin : Label)
    → head ≡ length o.nodes → index ≡ length o.loops → test ≡ length m.nodes → past ≡ length now.nodes → length now.nodes < 4294967296
    → EmitsCode b u body_begin o m → EmitsTest t v m now
    → (test < 4294967296 → tt' ≡ At test) → ways ≡ round tt' → begin ≡ redirect ways body_begin
    → (test ≤ past → past ≤ length now.nodes → n1 ≡ led_out test past (tested begin) now)
    → (head ≤ test → test ≤ length n1.nodes → n2 ≡ led_out head test ways n1)
    → (index ≤ length n2.loops → head < 4294967296 → length n2.nodes < 4294967296
    → new ≡ with_loop index (record { head = head; past = length n2.nodes; visible = visible }) n2)
    → EmitsCode (repeat_first visible b t) v begin o new
closed_behind_at visible t b u v body_begin o m now n1 n2 new head index test past ways place begin at_head at_index at_test at_past small h
    k place_is ways_is begin_is leads1 leads2 adds =
    let a = behind_nodes o m h.grows in
    let a' = behind_nodes m now k.grows in
    let place' : place ≡ At (length m.nodes) = place_is (omega (arith, at_test, a', small)) ∙ ap At at_test in
    let ways' : ways ≡ round (At (length m.nodes)) = ways_is ∙ ap round place' in
    let begin' : begin ≡ redirect (round (At (length m.nodes))) body_begin = begin_is ∙ ap (λ w. redirect w body_begin) ways' in
    let w1 = tested (redirect (round (At (length m.nodes))) body_begin) in
    let w2 = round (At (length m.nodes)) in
    let g1 = grows_led w1 m now k.grows in
    let o1 = led_out (length m.nodes) (length now.nodes) w1 now in
    let many1 : length o1.nodes ≡ length now.nodes = as_many w1 m now k.grows in
    let o2 = led_out (length o.nodes) (length m.nodes) w2 o1 in
    let many2 : length o2.nodes ≡ length o1.nodes = as_many_behind w2 o m o1 h.grows g1 in
    let n1_is : n1 ≡ o1 =
    leads1 (omega (arith, at_test, at_past, a')) (omega (arith, at_past))
    ∙ ap (λ y. led_out y past (tested begin) now) at_test ∙ ap (λ y. led_out (length m.nodes) y (tested begin) now) at_past
    ∙ ap (λ e. led_out (length m.nodes) (length now.nodes) (tested e) now) begin' in
    let size1 = ap (λ (y : Out). length y.nodes) n1_is in
    let n2_is : n2 ≡ o2 =
    leads2 (omega (arith, at_head, at_test, a)) (omega (arith, at_test, size1, many1, a'))
    ∙ ap (λ y. led_out y test ways n1) at_head ∙ ap (λ y. led_out (length o.nodes) y ways n1) at_test
    ∙ ap (λ w. led_out (length o.nodes) (length m.nodes) w n1) ways'
    ∙ ap (led_out (length o.nodes) (length m.nodes) w2) n1_is in
    let size2 = ap (λ (y : Out). length y.nodes) n2_is in
    let total : length n2.nodes ≡ length now.nodes = omega (arith, size2, many1, many2) in
    let loops2 = ap (λ (y : Out). length y.loops) n2_is in
    let l1 = more_loops o.loops (b.loops (length o.nodes)) now.loops (k.loops ∙ h.loops) in
    let is = adds (omega (arith, at_index, loops2, l1)) (omega (arith, at_head, a, a', small)) (omega (arith, total, small)) in
    let same : new ≡ with_loop (length o.loops) (record { head = length o.nodes; past = length now.nodes; visible = visible }) o2 =
    is ∙ ap (λ y. with_loop y (record { head = head; past = length n2.nodes; visible = visible }) n2) at_index
    ∙ ap (λ y. with_loop (length o.loops) (record { head = y; past = length n2.nodes; visible = visible }) n2) at_head
    ∙ ap (λ y. with_loop (length o.loops) (record { head = length o.nodes; past = y; visible = visible }) n2) total
    ∙ ap (with_loop (length o.loops) (record { head = length o.nodes; past = length now.nodes; visible = visible })) n2_is in
    subst (λ y. EmitsCode (repeat_first visible b t) v begin o y) (sym same)
    (subst (λ e. EmitsCode (repeat_first visible b t) v e o
    (with_loop (length o.loops) (record { head = length o.nodes; past = length now.nodes; visible = visible }) o2)) (sym begin')
    (repeated_first visible t b u v body_begin o m now h k))
