-- Places of a body, one behind another in one scope.
use Rattle.std.proofs.Common.{◌≡◌, ℕ, List, [], ◌∷◌, ◌++◌, refl, sym, ap, ◌∙◌, subst, append_assoc}
use Rattle.c_types_rules.specs.Types.{Kind}
use Rattle.c_lower_rules.specs.Contexts.{Context}
use Rattle.c_lower_exprs.specs.Contexts.{behind_variable, IsWithin}

pub within_added : (c c' : Context) (n : List ℕ) (kind : Kind) (slot : ℕ) → c' ≡ behind_variable c n kind slot → IsWithin c c'
within_added c c' n kind slot is = subst (IsWithin c) (sym is) (record {
  tables = refl;
  around = refl;
  more = record { name = n; slot = slot } ∷ [];
  bound = refl;
  first_local = refl;
  first_temp = refl;
  result = refl;
  first_line = refl;
  line = refl;
})

pub within_then : (one other third : Context) → IsWithin one other → IsWithin other third → IsWithin one third
within_then one other third h k = record {
  tables = k.tables ∙ h.tables;
  around = k.around ∙ h.around;
  more = k.more ++ h.more;
  bound = k.bound ∙ ap (λ xs. k.more ++ xs) h.bound ∙ sym (append_assoc k.more h.more one.bound);
  first_local = k.first_local ∙ h.first_local;
  first_temp = k.first_temp ∙ h.first_temp;
  result = k.result ∙ h.result;
  first_line = k.first_line ∙ h.first_line;
  line = k.line ∙ h.line;
}
