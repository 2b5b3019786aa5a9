-- The generated file of a number.
use Rattle.std.specs.Prelude.{ℕ, zero, suc, ◌-◌, ◌%◌, ◌==◌, if◌then◌else◌, List, [], ◌++◌, codes}
use Rattle.std.specs.Fmt.{decimal}

-- the structure that the procedures are over
abbrev pub structure_line : List ℕ
structure_line = codes "struct cell { int v; struct cell *n; };\n"

-- the name of a procedure
abbrev pub proc_name : ℕ → List ℕ
proc_name i = codes "g" ++ decimal i

-- it reads the cell that it is given
abbrev pub read_line : ℕ → List ℕ
read_line i = codes "int " ++ proc_name i ++ codes "(struct cell *x) { return x->v; }\n"

-- it walks the list that it is given
abbrev pub walk_line : ℕ → List ℕ
walk_line i = codes "void " ++ proc_name i ++ codes "(struct cell *x) { while (x) { x = x->n; } }\n"

-- it returns what the procedure two before does
abbrev pub return_line : ℕ → List ℕ
return_line i = codes "int " ++ proc_name i ++ codes "(struct cell *x) { return " ++ proc_name (i - 2) ++ codes "(x); }\n"

-- it calls the procedure two before
abbrev pub call_line : ℕ → List ℕ
call_line i = codes "void " ++ proc_name i ++ codes "(struct cell *x) { " ++ proc_name (i - 2) ++ codes "(x); }\n"

-- the line of the procedure of this number: the four kinds in turn
abbrev pub proc_line : ℕ → List ℕ
proc_line i =
    if i % 4 == 0 then read_line i else (if i % 4 == 1 then walk_line i else (if i % 4 == 2 then return_line i else call_line i))

-- the lines of the procedures of the numbers below this one
abbrev pub proc_lines : ℕ → List ℕ
proc_lines zero = []
proc_lines (suc i) = proc_lines i ++ proc_line i

-- the file of this number
abbrev pub generated : ℕ → List ℕ
generated n = structure_line ++ proc_lines n
