use Rattle.std.proofs.Common.{◌≡◌, false, sym, ap, ◌∙◌}
use Rattle.std.specs.BTreeMap.{get_by}
use Rattle.std.specs.Cmp.Lexicographic.{slice_cmp}
use Rattle.std.specs.Ordering.{nat_cmp}
use Rattle.std.specs.Str.{bytes_eq}
use Rattle.c_types_names.specs.NameMap.{is_first, named, or_last, digest}
use Rattle.c_types_names.proofs.Digests.{other_put}
use Rattle.c_types_names.proofs.name_map.NameMap.replace.Goals as goal

pub returns-in_ok-old-clause-thing : goal.returns-in_ok-old-clause-thing
returns-in_ok-old-clause-thing g c = λ n.
    let old = c.args.self.now in
    let bytes = c.as_bytes-bytes.result.now in
    let other : is_first (get_by (nat_cmp (digest bytes)) old.firsts) bytes (get_by (λ k. slice_cmp nat_cmp bytes k.now) old.others)
    ≡ false =
    ap
    (λ number. is_first (get_by (nat_cmp number) old.firsts) bytes (get_by (λ k. slice_cmp nat_cmp bytes k.now) old.others))
    (sym c.digest-number.ensures)
    ∙ sym c.is_first.ensures
    ∙ c.if-is_first.false in
    other_put bytes c.args.thing old.firsts old.others c.insert-else-is_first.new.self c.in_ok-old.ensures.updates other n
    ∙ ap (λ bs. or_last (named old n) (bytes_eq bs n) c.args.thing) c.as_bytes-bytes.ensures.value
