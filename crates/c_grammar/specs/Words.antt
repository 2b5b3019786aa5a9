-- The words of a list of tokens.
use Rattle.std.specs.Prelude.{◌≡◌, ◌≢◌, ℕ, Bool, true, false, ◌&&◌, ◌||◌, List, [], ◌∷◌, if◌then◌else◌, codes}
use Rattle.std.specs.Str.{bytes_eq}
use Rattle.c_grammar.specs.declared.tokens.places.Place.{Place}
use Rattle.c_grammar.specs.declared.tokens.token.Token.{Token}
use Rattle.c_grammar.specs.declared.tokens.token.TokenKind.{TokenKind}
use Rattle.c_grammar.specs.declared.tokens.token.TokenKind.TheVariants as kind
use Rattle.c_grammar.specs.declared.class.Class.{Class}
use Rattle.c_grammar.specs.declared.class.Class.TheVariants as class
use Rattle.c_grammar.specs.Classes
use Rattle.c_grammar.specs.Classes.{class_in, keys, signs, number_of}

-- a token as the grammar sees it
pub record Word : Type 0 where
  -- the number of its class
  pub class : ℕ
  pub text : List ℕ
  pub place : Place

abbrev pub is_key : List ℕ → Token → Bool
is_key text token = elim token.kind [ kind.Key ↦ bytes_eq token.text text | _ ↦ false ]

abbrev pub is_sign : List ℕ → Token → Bool
is_sign text token = elim token.kind [ kind.Sign ↦ bytes_eq token.text text | _ ↦ false ]

abbrev pub is_name : Token → Bool
is_name token = elim token.kind [ kind.Word ↦ true | _ ↦ false ]

-- the first token is this sign
abbrev pub begins_with_sign : List ℕ → List Token → Bool
begins_with_sign text [] = false
begins_with_sign text (token ∷ tokens) = is_sign text token

-- `*` and `)`
abbrev pub begins_with_star : List Token → Bool
begins_with_star [] = false
begins_with_star (token ∷ tokens) = is_sign (codes "*") token && begins_with_sign (codes ")") tokens

-- what stands behind a `(` that begins a cast, if it stands where an operand may: `int`, `void` or `struct`, or a name, a
-- star and `)` (the subset's own rule: C11 6.5.4 asks whether the name is a typedef's)
abbrev pub begins_cast : List Token → Bool
begins_cast [] = false
begins_cast (token ∷ tokens) =
    (is_key (codes "int") token || (is_key (codes "void") token || is_key (codes "struct") token))
    || (is_name token && begins_with_star tokens)

-- the class of a sign before these tokens
abbrev pub sign_class : List ℕ → List Token → Class
sign_class text tokens =
    if bytes_eq text (codes "(") then (if begins_cast tokens then class.Cast else class.Open) else class_in signs class.OtherKey text

-- the class of a token of this kind and text before these tokens
abbrev pub class_of : TokenKind → List ℕ → List Token → Class
class_of kind.Word text tokens = class.Name
class_of kind.Key text tokens = class_in keys class.OtherKey text
class_of kind.Number text tokens = class.Number
class_of kind.Sign text tokens = sign_class text tokens
class_of kind.End text tokens = class.End

abbrev pub place_of : Token → Place
place_of token = record { line = token.line; column = token.column }

abbrev pub word_of : Token → List Token → Word
word_of token tokens = record { class = number_of (class_of token.kind token.text tokens); text = token.text; place = place_of token }

-- the words of the tokens
abbrev pub words_of : List Token → List Word
words_of [] = []
words_of (token ∷ tokens) = word_of token tokens ∷ words_of tokens

-- the numbers of the words' classes
abbrev pub classes : List Word → List ℕ
classes [] = []
classes (word ∷ words) = word.class ∷ classes words

-- the last word is the end, and no other is
abbrev pub IsEnded : List Word → Type 0
IsEnded [] = ⊥
IsEnded (word ∷ []) = word.class ≡ Classes.END
IsEnded (word ∷ next ∷ words) = (word.class ≢ Classes.END) × IsEnded (next ∷ words)
