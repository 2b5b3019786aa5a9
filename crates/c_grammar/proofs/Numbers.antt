-- A class is known by its number.
use Rattle.std.proofs.Common.{◌≡◌, refl, sym, ap, ◌∙◌}
use Rattle.c_grammar.specs.declared.class.Class.{Class}
use Rattle.c_grammar.specs.declared.class.Class.TheVariants as class
use Rattle.c_grammar.specs.Classes.{number_of, numbered}

pub numbered-number_of : (c : Class) → numbered (number_of c) ≡ c
numbered-number_of class.End = refl
numbered-number_of _ = refl

-- classes of one number are the same
pub same_class : (c d : Class) → number_of c ≡ number_of d → c ≡ d
same_class c d e = sym (numbered-number_of c) ∙ ap numbered e ∙ numbered-number_of d
