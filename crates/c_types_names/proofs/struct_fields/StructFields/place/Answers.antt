use Rattle.std.proofs.Common.{◌≡◌, ℕ, Option, length, map, sym, ap, ◌∙◌, rules}
use Rattle.std.proofs.lemmas.List.{length-map}
use Rattle.std.specs.Option.{unwrap_or}
use Rattle.c_types_names.specs.StructFields.{declared_seen, place_named}
use Rattle.c_types_names.proofs.FieldPlaces.{place_found}
use Rattle.c_types_names.proofs.struct_fields.StructFields.place.Goals as goal

pub returns-in-None : goal.returns-in-None
returns-in-None c =
    let all = map declared_seen c.self.inside.all.items in
    let len : c.len.result ≡ length c.self.inside.all.items = search rules in
    len
    ∙ sym (length-map c.self.inside.all.items declared_seen)
    ∙ ap (λ (place : Option ℕ). unwrap_or place (length all)) (sym c.in-None.is ∙ c.named.ensures ∙ c.self.invariant c.args.name.now)
    ∙ place_found all c.args.name.now
    ∙ ap (λ xs. place_named xs c.args.name.now) c.self.view_is

pub returns-in-Some : goal.returns-in-Some
returns-in-Some c =
    let all = map declared_seen c.self.inside.all.items in
    ap (λ (place : Option ℕ). unwrap_or place (length all)) (sym c.in-Some.is ∙ c.named.ensures ∙ c.self.invariant c.args.name.now)
    ∙ place_found all c.args.name.now
    ∙ ap (λ xs. place_named xs c.args.name.now) c.self.view_is
