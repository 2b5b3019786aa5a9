-- The classes of words, by their texts and by numbers.
use Rattle.std.specs.Prelude.{ℕ, List, [], ◌∷◌, codes, if◌then◌else◌, ◌==◌}
use Rattle.std.specs.Str.{bytes_eq}
use Rattle.c_grammar.specs.declared.class.Class.{Class}
use Rattle.c_grammar.specs.declared.class.Class.TheVariants as class

-- a text and its class
pub record Entry : Type 0 where
  pub text : List ℕ
  pub is : Class

abbrev pub entry : List ℕ → Class → Entry
entry text is = record { text = text; is = is }

-- the class of a text, or another where the list has none
abbrev pub class_in : List Entry → Class → List ℕ → Class
class_in [] other text = other
class_in (first ∷ others) other text = if bytes_eq first.text text then first.is else class_in others other text

-- the reserved words of the grammar
abbrev pub keys : List Entry
keys =
    entry (codes "int") class.Int
    ∷ entry (codes "void") class.Void
    ∷ entry (codes "struct") class.Struct
    ∷ entry (codes "typedef") class.Typedef
    ∷ entry (codes "if") class.If
    ∷ entry (codes "else") class.Else
    ∷ entry (codes "while") class.While
    ∷ entry (codes "for") class.For
    ∷ entry (codes "do") class.Do
    ∷ entry (codes "break") class.Break
    ∷ entry (codes "continue") class.Continue
    ∷ entry (codes "return") class.Return
    ∷ entry (codes "sizeof") class.Sizeof
    ∷ entry (codes "NULL") class.Null
    ∷ entry (codes "malloc") class.Malloc
    ∷ entry (codes "free") class.Free
    ∷ []

-- the signs but for `(`
abbrev pub signs : List Entry
signs =
    entry (codes ")") class.Close
    ∷ entry (codes "{") class.OpenBrace
    ∷ entry (codes "}") class.CloseBrace
    ∷ entry (codes ";") class.Semicolon
    ∷ entry (codes ",") class.Comma
    ∷ entry (codes "->") class.Arrow
    ∷ entry (codes "=") class.Set
    ∷ entry (codes "+=") class.AddTo
    ∷ entry (codes "-=") class.SubtractFrom
    ∷ entry (codes "*=") class.MultiplyBy
    ∷ entry (codes "++") class.Increment
    ∷ entry (codes "--") class.Decrement
    ∷ entry (codes "==") class.Equal
    ∷ entry (codes "!=") class.NotEqual
    ∷ entry (codes "<") class.Less
    ∷ entry (codes "<=") class.LessEqual
    ∷ entry (codes ">") class.Greater
    ∷ entry (codes ">=") class.GreaterEqual
    ∷ entry (codes "+") class.Plus
    ∷ entry (codes "-") class.Minus
    ∷ entry (codes "*") class.Star
    ∷ entry (codes "!") class.Not
    ∷ entry (codes "&&") class.And
    ∷ entry (codes "||") class.Or
    ∷ []

-- the number of a class, by which the forms of the grammar name it
abbrev pub number_of : Class → ℕ
number_of class.End = 0
number_of class.Name = 1
number_of class.Number = 2
number_of class.Open = 3
number_of class.Cast = 4
number_of class.Int = 5
number_of class.Void = 6
number_of class.Struct = 7
number_of class.Typedef = 8
number_of class.If = 9
number_of class.Else = 10
number_of class.While = 11
number_of class.For = 12
number_of class.Do = 13
number_of class.Break = 14
number_of class.Continue = 15
number_of class.Return = 16
number_of class.Sizeof = 17
number_of class.Null = 18
number_of class.Malloc = 19
number_of class.Free = 20
number_of class.OtherKey = 21
number_of class.Close = 22
number_of class.OpenBrace = 23
number_of class.CloseBrace = 24
number_of class.Semicolon = 25
number_of class.Comma = 26
number_of class.Arrow = 27
number_of class.Set = 28
number_of class.AddTo = 29
number_of class.SubtractFrom = 30
number_of class.MultiplyBy = 31
number_of class.Increment = 32
number_of class.Decrement = 33
number_of class.Equal = 34
number_of class.NotEqual = 35
number_of class.Less = 36
number_of class.LessEqual = 37
number_of class.Greater = 38
number_of class.GreaterEqual = 39
number_of class.Plus = 40
number_of class.Minus = 41
number_of class.Star = 42
number_of class.Not = 43
number_of class.And = 44
number_of class.Or = 45

abbrev pub END : ℕ
END = 0

abbrev pub NAME : ℕ
NAME = 1

abbrev pub NUMBER : ℕ
NUMBER = 2

abbrev pub OPEN : ℕ
OPEN = 3

abbrev pub CAST : ℕ
CAST = 4

abbrev pub INT : ℕ
INT = 5

abbrev pub VOID : ℕ
VOID = 6

abbrev pub STRUCT : ℕ
STRUCT = 7

abbrev pub TYPEDEF : ℕ
TYPEDEF = 8

abbrev pub IF : ℕ
IF = 9

abbrev pub ELSE : ℕ
ELSE = 10

abbrev pub WHILE : ℕ
WHILE = 11

abbrev pub FOR : ℕ
FOR = 12

abbrev pub DO : ℕ
DO = 13

abbrev pub BREAK : ℕ
BREAK = 14

abbrev pub CONTINUE : ℕ
CONTINUE = 15

abbrev pub RETURN : ℕ
RETURN = 16

abbrev pub SIZEOF : ℕ
SIZEOF = 17

abbrev pub NULL : ℕ
NULL = 18

abbrev pub MALLOC : ℕ
MALLOC = 19

abbrev pub FREE : ℕ
FREE = 20

abbrev pub OTHER_KEY : ℕ
OTHER_KEY = 21

abbrev pub CLOSE : ℕ
CLOSE = 22

abbrev pub OPEN_BRACE : ℕ
OPEN_BRACE = 23

abbrev pub CLOSE_BRACE : ℕ
CLOSE_BRACE = 24

abbrev pub SEMICOLON : ℕ
SEMICOLON = 25

abbrev pub COMMA : ℕ
COMMA = 26

abbrev pub ARROW : ℕ
ARROW = 27

abbrev pub SET : ℕ
SET = 28

abbrev pub ADD_TO : ℕ
ADD_TO = 29

abbrev pub SUBTRACT_FROM : ℕ
SUBTRACT_FROM = 30

abbrev pub MULTIPLY_BY : ℕ
MULTIPLY_BY = 31

abbrev pub INCREMENT : ℕ
INCREMENT = 32

abbrev pub DECREMENT : ℕ
DECREMENT = 33

abbrev pub EQUAL : ℕ
EQUAL = 34

abbrev pub NOT_EQUAL : ℕ
NOT_EQUAL = 35

abbrev pub LESS : ℕ
LESS = 36

abbrev pub LESS_EQUAL : ℕ
LESS_EQUAL = 37

abbrev pub GREATER : ℕ
GREATER = 38

abbrev pub GREATER_EQUAL : ℕ
GREATER_EQUAL = 39

abbrev pub PLUS : ℕ
PLUS = 40

abbrev pub MINUS : ℕ
MINUS = 41

abbrev pub STAR : ℕ
STAR = 42

abbrev pub NOT : ℕ
NOT = 43

abbrev pub AND : ℕ
AND = 44

abbrev pub OR : ℕ
OR = 45

-- the classes but for those of the other reserved words
abbrev pub all_classes : List Class
all_classes =
    class.End ∷ class.Name ∷ class.Number ∷ class.Open ∷ class.Cast ∷ class.Int ∷ class.Void ∷ class.Struct
    ∷ class.Typedef ∷ class.If ∷ class.Else ∷ class.While ∷ class.For ∷ class.Do ∷ class.Break ∷ class.Continue
    ∷ class.Return ∷ class.Sizeof ∷ class.Null ∷ class.Malloc ∷ class.Free ∷ class.Close ∷ class.OpenBrace ∷ class.CloseBrace
    ∷ class.Semicolon ∷ class.Comma ∷ class.Arrow ∷ class.Set ∷ class.AddTo ∷ class.SubtractFrom ∷ class.MultiplyBy ∷ class.Increment
    ∷ class.Decrement ∷ class.Equal ∷ class.NotEqual ∷ class.Less ∷ class.LessEqual ∷ class.Greater ∷ class.GreaterEqual ∷ class.Plus
    ∷ class.Minus ∷ class.Star ∷ class.Not ∷ class.And ∷ class.Or
    ∷ []

-- the class of a number, among these
abbrev pub class_of_number : ℕ → List Class → Class
class_of_number number [] = class.OtherKey
class_of_number number (first ∷ others) = if number_of first == number then first else class_of_number number others

-- the class of a number
abbrev pub numbered : ℕ → Class
numbered number = class_of_number number all_classes
