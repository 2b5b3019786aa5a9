-- Which type a specifier is, stars aside.
use Rattle.std.specs.Prelude.{Bool, true, false}
use Rattle.c_grammar.specs.Trees.{Specifier}

abbrev pub is_int : Specifier → Bool
is_int (Specifier.Int place) = true
is_int _ = false

abbrev pub is_void : Specifier → Bool
is_void (Specifier.Void place) = true
is_void _ = false
