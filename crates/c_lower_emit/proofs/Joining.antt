-- Pieces that are emitted one behind another, and pieces that tests lead to.
use Rattle.std.proofs.Common.{◌≡◌, ℕ, ◌+◌, List, [], ◌∷◌, ◌++◌, length, map, refl, sym, ap, ◌∙◌, subst, append_assoc, arith}
use Rattle.std.proofs.lemmas.List.{append-nil, length-append, length-map, map-append}
use Rattle.shape_data.specs.declared.program.Cmd.{Cmd}
use Rattle.shape_data.specs.declared.program.Node.{Node}
use Rattle.c_lower_rules.specs.Code.{Exits, onto, Code, Test, Straight, node, jump, nothing, command, ◌⨾◌, no_nodes, ◌⊹◌, straight, ◌⊳◌}
use Rattle.c_lower_rules.specs.Code.{test_behind, both, either, choose}
use Rattle.c_lower_rules.specs.Temporaries as temporaries
use Rattle.c_lower_emit.specs.declared.drafts.Draft.{Draft}
use Rattle.c_lower_emit.specs.declared.drafts.Label.{Label}
use Rattle.c_lower_emit.specs.declared.drafts.Label.TheVariants.{At, Next, Holds, Fails}
use Rattle.c_lower_emit.specs.declared.drafts.Ways.{Ways}
use Rattle.c_lower_emit.specs.Drafts.{Places, exits, resolve, redirect, next_at, redirected, led_between, aimed, laid}
use Rattle.c_lower_emit.specs.Emitting.{Out, with_draft, led_out, HasRoom, Grows, EmitsStraight, EmitsTest, EmitsCode}
use Rattle.c_lower_emit.proofs.Leading.{led, resolve_led, all_led, middle_led}

-- GROWTH

pub grows_none : (o : Out) → Grows 0 o.temps [] o o
grows_none o = record { nodes = sym (append-nil o.nodes); size = refl; temps = refl; grown = omega arith }

pub behind_nodes : {count : ℕ} {taken : List temporaries.Temp} {ds : List Draft} (o m : Out) → Grows count taken ds o m
    → length m.nodes ≡ length o.nodes + count
behind_nodes {ds = ds} o m h = ap length h.nodes ∙ length-append o.nodes ds ∙ ap (λ n. length o.nodes + n) h.size

pub grows_then : {a b : ℕ} {s t : List temporaries.Temp} {ds es : List Draft} (o m n : Out) → Grows a s ds o m → Grows b t es m n
    → Grows (a + b) t (ds ++ es) o n
grows_then {a = a} {ds = ds} {es = es} o m n h k =
    let first = h.grown in
    let second = k.grown in
    let there = ap length h.temps in
    record {
      nodes = k.nodes ∙ ap (λ xs. xs ++ es) h.nodes ∙ append_assoc o.nodes ds es;
      size = length-append ds es ∙ ap (λ x. x + length es) h.size ∙ ap (λ x. a + x) k.size;
      temps = k.temps;
      grown = omega (arith, first, second, there);
    }

pub room_first : (f a b : ℕ) (o : Out) → HasRoom f (a + b) o → HasRoom f a o
room_first f a b o room =
    let nodes = room.nodes in
    let temps = room.temps in
    record { nodes = omega (arith, nodes); temps = omega (arith, temps) }

pub room_then : (f a b : ℕ) {s : List temporaries.Temp} {ds : List Draft} (o m : Out) → HasRoom f (a + b) o → Grows a s ds o m
    → HasRoom f b m
room_then f a b o m room h =
    let nodes = room.nodes in
    let temps = room.temps in
    let place = behind_nodes o m h in
    let grown = h.grown in
    let there = ap length h.temps in
    record { nodes = omega (arith, nodes, place); temps = omega (arith, temps, grown, there) }

pub laid_both : (p : Places) (ds es : List Draft) (xs ys : List Node) → map (laid p) ds ≡ xs → map (laid p) es ≡ ys
    → map (laid p) (ds ++ es) ≡ xs ++ ys
laid_both p ds es xs ys h k = map-append (laid p) ds es ∙ ap (λ ns. ns ++ map (laid p) es) h ∙ ap (λ ns. xs ++ ns) k

-- STRAIGHT CODE

pub straight_none : (o : Out) → EmitsStraight no_nodes o.temps o o
straight_none o = record { drafts = []; grows = grows_none o; laid = λ p. refl; loops = refl }

pub straight_then : (one other : Straight) (s t : List temporaries.Temp) (o m n : Out) → EmitsStraight one s o m → EmitsStraight other t m n
    → EmitsStraight (one ⊹ other) t o n
straight_then one other s t o m n h k = record {
  drafts = h.drafts ++ k.drafts;
  grows = grows_then o m n h.grows k.grows;
  laid = λ p. laid_both p h.drafts k.drafts _ _ (h.laid p) (k.laid p ∙ ap other.nodes (behind_nodes o m h.grows));
  loops = k.loops ∙ h.loops;
}

-- code whose first node follows straight code
pub code_behind : (one : Straight) (code : Code) (s t : List temporaries.Temp) (begin : Label) (o m n : Out) → EmitsStraight one s o m
    → EmitsCode code t begin m n
    → EmitsCode (one ⊳ code) t (At (length o.nodes)) o n
code_behind one code s t begin o m n h k = record {
  drafts = h.drafts ++ k.drafts;
  grows = grows_then o m n h.grows k.grows;
  laid = λ p. laid_both p h.drafts k.drafts _ _ (h.laid p) (k.laid p ∙ ap (λ at. code.nodes at (exits p)) (behind_nodes o m h.grows));
  entry = λ p. refl;
  loops = k.loops ∙ ap (λ ls. ls ++ code.loops (length m.nodes)) h.loops ∙ ap (λ at. o.loops ++ code.loops at) (behind_nodes o m h.grows);
}

pub test_then : (one : Straight) (test : Test) (s t : List temporaries.Temp) (o m n : Out) → EmitsStraight one s o m → EmitsTest test t m n
    → EmitsTest (test_behind one test) t o n
test_then one test s t o m n h k = record {
  drafts = h.drafts ++ k.drafts;
  grows = grows_then o m n h.grows k.grows;
  laid = λ p. laid_both p h.drafts k.drafts _ _ (h.laid p) (k.laid p ∙ ap (λ at. test.nodes at p.holds p.fails) (behind_nodes o m h.grows));
  loops = k.loops ∙ h.loops;
}

-- ONE NODE

grows_one : (o : Out) (d : Draft) → Grows 1 o.temps (d ∷ []) o (record o { nodes = o.nodes ++ d ∷ [] })
grows_one o d = record { nodes = refl; size = refl; temps = refl; grown = omega arith }

pub code_one : (line : ℕ) (make : ℕ → Cmd) (cmd : Cmd) (other : Label) (o : Out) → ((n e : ℕ) → aimed cmd n e ≡ make n)
    → EmitsCode (command line make) o.temps (At (length o.nodes)) o (with_draft line cmd Next other o)
code_one line make cmd other o is = record {
  drafts = record { line = line; cmd = cmd; next = Next; other = other } ∷ [];
  grows = grows_one o _;
  laid = λ p. ap (λ c. node line c ∷ []) (is p.next (resolve p other));
  entry = λ p. refl;
  loops = sym (append-nil o.loops);
}

pub test_one : (line : ℕ) (test : Test) (cmd : Cmd) (o : Out) → test.size ≡ 1
    → ((at n e : ℕ) → node line (aimed cmd n e) ∷ [] ≡ test.nodes at n e)
    → EmitsTest test o.temps o (with_draft line cmd Holds Fails o)
test_one line test cmd o size is = record {
  drafts = record { line = line; cmd = cmd; next = Holds; other = Fails } ∷ [];
  grows =
      subst (λ n. Grows n o.temps (record { line = line; cmd = cmd; next = Holds; other = Fails } ∷ []) o
      (with_draft line cmd Holds Fails o))
      (sym size)
      (grows_one o (record { line = line; cmd = cmd; next = Holds; other = Fails }));
  laid = λ p. is (length o.nodes) p.holds p.fails;
  loops = refl;
}

-- LED PIECES

pub grows_led : (w : Ways) {count : ℕ} {taken : List temporaries.Temp} {ds : List Draft} (o m : Out) → Grows count taken ds o m
    → Grows count taken (map (redirected w) ds) o (led_out (length o.nodes) (length m.nodes) w m)
grows_led w {ds = ds} o m h = record {
  nodes =
      ap (led_between (length o.nodes) (length m.nodes) w) (h.nodes ∙ sym (append-nil (o.nodes ++ ds)))
      ∙ middle_led w o.nodes ds [] (length o.nodes) (length m.nodes) refl (ap length h.nodes ∙ length-append o.nodes ds)
      ∙ append-nil (o.nodes ++ map (redirected w) ds);
  size = length-map ds (redirected w) ∙ h.size;
  temps = h.temps;
  grown = h.grown;
}

-- a test whose ways on are others
pub test_led : (w : Ways) (one other : Test) (t : List temporaries.Temp) (o m : Out) → EmitsTest one t o m → other.size ≡ one.size
    → ((p : Places) → one.nodes (length o.nodes) (resolve p w.holds) (resolve p w.fails) ≡ other.nodes (length o.nodes) p.holds p.fails)
    → EmitsTest other t o (led_out (length o.nodes) (length m.nodes) w m)
test_led w one other t o m h size same = record {
  drafts = map (redirected w) h.drafts;
  grows =
      subst (λ n. Grows n t (map (redirected w) h.drafts) o (led_out (length o.nodes) (length m.nodes) w m)) (sym size)
      (grows_led w o m h.grows);
  laid = λ p. all_led p w h.drafts ∙ h.laid (led p w) ∙ same p;
  loops = h.loops;
}

-- straight code, where the piece goes on at the place behind it
pub straight_led : (w : Ways) (code : Code) (t : List temporaries.Temp) (begin : Label) (o m : Out) → EmitsCode code t begin o m
    → ((p : Places) → code.nodes (length o.nodes) (exits (led p w)) ≡ code.nodes (length o.nodes) (onto (length o.nodes + code.size)))
    → ((at : ℕ) → code.loops at ≡ [])
    → EmitsStraight (straight code) t o (led_out (length o.nodes) (length m.nodes) w m)
straight_led w code t begin o m h same none = record {
  drafts = map (redirected w) h.drafts;
  grows = grows_led w o m h.grows;
  laid = λ p. all_led p w h.drafts ∙ h.laid (led p w) ∙ same p;
  loops = h.loops ∙ ap (λ ls. o.loops ++ ls) (none (length o.nodes)) ∙ append-nil o.loops;
}

-- `&&` and `||`: where the first piece leads behind itself
pub both_then : (w : Ways) (one other : Test) (s t : List temporaries.Temp) (o m n : Out) → EmitsTest one s o m
    → EmitsTest other t (led_out (length o.nodes) (length m.nodes) w m) n
    → ((p : Places) → resolve p w.holds ≡ length m.nodes) → ((p : Places) → resolve p w.fails ≡ p.fails) → EmitsTest (both one other) t o n
both_then w one other s t o m n h k holds fails =
    let g = grows_led w o m h.grows in
    let place = behind_nodes o m h.grows in
    record {
      drafts = map (redirected w) h.drafts ++ k.drafts;
      grows = grows_then o (led_out (length o.nodes) (length m.nodes) w m) n g k.grows;
      laid = λ p.
          laid_both p (map (redirected w) h.drafts) k.drafts _ _
          (all_led p w h.drafts ∙ h.laid (led p w) ∙ ap (λ e. one.nodes (length o.nodes) e (resolve p w.fails)) (holds p ∙ place)
          ∙ ap (λ e. one.nodes (length o.nodes) (length o.nodes + one.size) e) (fails p))
          (k.laid p ∙ ap (λ at. other.nodes at p.holds p.fails) (behind_nodes o (led_out (length o.nodes) (length m.nodes) w m) g));
      loops = k.loops ∙ h.loops;
    }

pub either_then : (w : Ways) (one other : Test) (s t : List temporaries.Temp) (o m n : Out) → EmitsTest one s o m
    → EmitsTest other t (led_out (length o.nodes) (length m.nodes) w m) n
    → ((p : Places) → resolve p w.holds ≡ p.holds) → ((p : Places) → resolve p w.fails ≡ length m.nodes)
    → EmitsTest (either one other) t o n
either_then w one other s t o m n h k holds fails =
    let g = grows_led w o m h.grows in
    let place = behind_nodes o m h.grows in
    record {
      drafts = map (redirected w) h.drafts ++ k.drafts;
      grows = grows_then o (led_out (length o.nodes) (length m.nodes) w m) n g k.grows;
      laid = λ p.
          laid_both p (map (redirected w) h.drafts) k.drafts _ _
          (all_led p w h.drafts ∙ h.laid (led p w) ∙ ap (λ e. one.nodes (length o.nodes) e (resolve p w.fails)) (holds p)
          ∙ ap (λ e. one.nodes (length o.nodes) p.holds e) (fails p ∙ place))
          (k.laid p ∙ ap (λ at. other.nodes at p.holds p.fails) (behind_nodes o (led_out (length o.nodes) (length m.nodes) w m) g));
      loops = k.loops ∙ h.loops;
    }

-- CHOICES

-- the exits of the first of two pieces are replaced when the second stands
pub grows_led_behind : (w : Ways) {a b : ℕ} {s t : List temporaries.Temp} {ds es : List Draft} (o m n : Out) → Grows a s ds o m
    → Grows b t es m n
    → Grows (a + b) t (map (redirected w) ds ++ es) o (led_out (length o.nodes) (length m.nodes) w n)
grows_led_behind w {a = a} {ds = ds} {es = es} o m n h k =
    let both = grows_then o m n h k in
    record {
      nodes =
          ap (led_between (length o.nodes) (length m.nodes) w) (k.nodes ∙ ap (λ xs. xs ++ es) h.nodes)
          ∙ middle_led w o.nodes ds es (length o.nodes) (length m.nodes) refl (ap length h.nodes ∙ length-append o.nodes ds)
          ∙ append_assoc o.nodes (map (redirected w) ds) es;
      size = length-append (map (redirected w) ds) es ∙ ap (λ x. x + length es) (length-map ds (redirected w) ∙ h.size)
          ∙ ap (λ x. a + x) k.size;
      temps = k.temps;
      grown = both.grown;
    }

pub grows_same : {a b : ℕ} {t : List temporaries.Temp} {ds : List Draft} (o m : Out) → a ≡ b → Grows a t ds o m → Grows b t ds o m
grows_same {t = t} {ds = ds} o m is h = subst (λ n. Grows n t ds o m) is h

-- the one piece where the test holds, the other where it doesn't
pub chosen : (w : Ways) (test : Test) (one other : Code) (s t u : List temporaries.Temp) (begin begin' : Label) (o m m' n : Out)
    → EmitsTest test s o m → EmitsCode one t begin m m' → EmitsCode other u begin' m' n → w.holds ≡ begin → w.fails ≡ begin'
    → EmitsCode (choose test one other) u (At (length o.nodes)) o (led_out (length o.nodes) (length m.nodes) w n)
chosen w test one other s t u begin begin' o m m' n h k l holds fails =
    let at = behind_nodes o m h.grows in
    let at' : length m'.nodes ≡ length o.nodes + test.size + one.size = behind_nodes m m' k.grows ∙ ap (λ x. x + one.size) at in
    let sizes : test.size + (one.size + other.size) ≡ test.size + one.size + other.size = omega arith in
    record {
      drafts = map (redirected w) h.drafts ++ (k.drafts ++ l.drafts);
      grows =
          grows_same o (led_out (length o.nodes) (length m.nodes) w n) sizes
          (grows_led_behind w o m n h.grows (grows_then m m' n k.grows l.grows));
      laid = λ p.
          laid_both p (map (redirected w) h.drafts) (k.drafts ++ l.drafts) _ _
          (all_led p w h.drafts ∙ h.laid (led p w)
          ∙ ap (λ e. test.nodes (length o.nodes) e (resolve p w.fails))
          (ap (resolve p) holds ∙ k.entry p ∙ ap (λ x. one.entry x (exits p)) at)
          ∙ ap (λ e. test.nodes (length o.nodes) (one.entry (length o.nodes + test.size) (exits p)) e)
          (ap (resolve p) fails ∙ l.entry p ∙ ap (λ x. other.entry x (exits p)) at'))
          (laid_both p k.drafts l.drafts _ _ (k.laid p ∙ ap (λ x. one.nodes x (exits p)) at)
          (l.laid p ∙ ap (λ x. other.nodes x (exits p)) at'))
          ∙ sym (append_assoc
          (test.nodes (length o.nodes) (one.entry (length o.nodes + test.size) (exits p))
          (other.entry (length o.nodes + test.size + one.size) (exits p)))
          (one.nodes (length o.nodes + test.size) (exits p)) (other.nodes (length o.nodes + test.size + one.size) (exits p)));
      entry = λ p. refl;
      loops =
          l.loops ∙ ap (λ ls. ls ++ other.loops (length m'.nodes)) (k.loops ∙ ap (λ ls. ls ++ one.loops (length m.nodes)) h.loops)
          ∙ append_assoc o.loops (one.loops (length m.nodes)) (other.loops (length m'.nodes))
          ∙ ap (λ x. o.loops ++ (one.loops x ++ other.loops (length m'.nodes))) at
          ∙ ap (λ x. o.loops ++ (one.loops (length o.nodes + test.size) ++ other.loops x)) at';
    }

-- ONE PIECE BEHIND ANOTHER

pub code_then : (one other : Code) (s t : List temporaries.Temp) (begin begin' : Label) (o m n : Out) → EmitsCode one s begin o m
    → EmitsCode other t begin' m n
    → EmitsCode (one ⨾ other) t (redirect (next_at begin') begin) o (led_out (length o.nodes) (length m.nodes) (next_at begin') n)
code_then one other s t begin begin' o m n h k =
    let w = next_at begin' in
    let at = behind_nodes o m h.grows in
    record {
      drafts = map (redirected w) h.drafts ++ k.drafts;
      grows = grows_led_behind w o m n h.grows k.grows;
      laid = λ p.
          laid_both p (map (redirected w) h.drafts) k.drafts _ _
          (all_led p w h.drafts ∙ h.laid (led p w)
          ∙ ap (λ x. one.nodes (length o.nodes) (record (exits p) { next = x })) (k.entry p ∙ ap (λ x. other.entry x (exits p)) at))
          (k.laid p ∙ ap (λ x. other.nodes x (exits p)) at);
      entry = λ p.
          resolve_led p w begin ∙ h.entry (led p w)
          ∙ ap (λ x. one.entry (length o.nodes) (record (exits p) { next = x })) (k.entry p ∙ ap (λ x. other.entry x (exits p)) at);
      loops =
          k.loops ∙ ap (λ ls. ls ++ other.loops (length m.nodes)) h.loops
          ∙ append_assoc o.loops (one.loops (length o.nodes)) (other.loops (length m.nodes))
          ∙ ap (λ x. o.loops ++ (one.loops (length o.nodes) ++ other.loops x)) at;
    }

-- no code
pub code_none : (exit : Exits → ℕ) (begin : Label) (o : Out) → ((p : Places) → resolve p begin ≡ exit (exits p))
    → EmitsCode (jump exit) o.temps begin o o
code_none exit begin o is = record { drafts = []; grows = grows_none o; laid = λ p. refl; entry = is; loops = sym (append-nil o.loops) }

-- THE SAME CODE

-- two ways to put pieces together that come to the same
pub record SameCode (one other : Code) : Type 0 where
  pub size : one.size ≡ other.size
  pub entry : (at : ℕ) (exits : Exits) → one.entry at exits ≡ other.entry at exits
  pub nodes : (at : ℕ) (exits : Exits) → one.nodes at exits ≡ other.nodes at exits
  pub loops : (at : ℕ) → one.loops at ≡ other.loops at

pub same_code : (one other : Code) (t : List temporaries.Temp) (begin : Label) (o m : Out) → SameCode one other → EmitsCode one t begin o m
    → EmitsCode other t begin o m
same_code one other t begin o m same h = record {
  drafts = h.drafts;
  grows = grows_same o m same.size h.grows;
  laid = λ p. h.laid p ∙ same.nodes (length o.nodes) (exits p);
  entry = λ p. h.entry p ∙ same.entry (length o.nodes) (exits p);
  loops = h.loops ∙ ap (λ ls. o.loops ++ ls) (same.loops (length o.nodes));
}

pub same_self : (one : Code) → SameCode one one
same_self one = record { size = refl; entry = λ at exits. refl; nodes = λ at exits. refl; loops = λ at. refl }

pub same_back : (one other : Code) → SameCode one other → SameCode other one
same_back one other h =
    record {
      size = sym h.size;
      entry = λ at exits. sym (h.entry at exits);
      nodes = λ at exits. sym (h.nodes at exits);
      loops = λ at. sym (h.loops at);
    }

pub same_both : (one two three : Code) → SameCode one two → SameCode two three → SameCode one three
same_both one two three h k = record {
  size = h.size ∙ k.size;
  entry = λ at exits. h.entry at exits ∙ k.entry at exits;
  nodes = λ at exits. h.nodes at exits ∙ k.nodes at exits;
  loops = λ at. h.loops at ∙ k.loops at;
}

pub same_behind : (one other third : Code) → SameCode other third → SameCode (one ⨾ other) (one ⨾ third)
same_behind one other third h = record {
  size = ap (λ n. one.size + n) h.size;
  entry = λ at exits. ap (λ x. one.entry at (record exits { next = x })) (h.entry (at + one.size) exits);
  nodes = λ at exits.
      ap (λ x. one.nodes at (record exits { next = x }) ++ other.nodes (at + one.size) exits) (h.entry (at + one.size) exits)
      ∙ ap (λ ns. one.nodes at (record exits { next = third.entry (at + one.size) exits }) ++ ns) (h.nodes (at + one.size) exits);
  loops = λ at. ap (λ ls. one.loops at ++ ls) (h.loops (at + one.size));
}

pub same_nothing_behind : (one : Code) → SameCode (one ⨾ nothing) one
same_nothing_behind one = record {
  size = omega arith;
  entry = λ at exits. refl;
  nodes = λ at exits. append-nil (one.nodes at exits);
  loops = λ at. append-nil (one.loops at);
}

pub same_nothing_before : (one : Code) → SameCode (nothing ⨾ one) one
same_nothing_before one = record {
  size = omega arith;
  entry = λ at exits. ap (λ x. one.entry x exits) (plus_none at);
  nodes = λ at exits. ap (λ x. one.nodes x exits) (plus_none at);
  loops = λ at. ap one.loops (plus_none at);
}
  where
    plus_none : (at : ℕ) → at + 0 ≡ at
    plus_none at = omega arith

-- pieces group from either end
pub same_groups : (one two three : Code) → SameCode ((one ⨾ two) ⨾ three) (one ⨾ (two ⨾ three))
same_groups one two three = record {
  size = omega arith;
  entry =
      λ at exits. ap (λ x. one.entry at (record exits { next = two.entry (at + one.size) (record exits { next = three.entry x exits }) }))
      (places at);
  nodes = λ at exits.
      append_assoc
      (one.nodes at
      (record exits { next = two.entry (at + one.size) (record exits { next = three.entry (at + (one.size + two.size)) exits }) }))
      (two.nodes (at + one.size) (record exits { next = three.entry (at + (one.size + two.size)) exits }))
      (three.nodes (at + (one.size + two.size)) exits)
      ∙ ap (λ x. one.nodes at (record exits { next = two.entry (at + one.size) (record exits { next = three.entry x exits }) })
      ++ (two.nodes (at + one.size) (record exits { next = three.entry x exits }) ++ three.nodes x exits)) (places at);
  loops = λ at. append_assoc (one.loops at) (two.loops (at + one.size)) (three.loops (at + (one.size + two.size)))
      ∙ ap (λ x. one.loops at ++ (two.loops (at + one.size) ++ three.loops x)) (places at);
}
  where
    places : (at : ℕ) → at + (one.size + two.size) ≡ at + one.size + two.size
    places at = omega arith
