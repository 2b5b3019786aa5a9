use Rattle.std.proofs.Common.{map, ap}
use Rattle.c_grammar.specs.Printing.{print_struct_body}
use Rattle.c_tree.specs.Syntax.{fields_tree}
use Rattle.c_print.proofs.Rows.{then, ends, at_same}
use Rattle.c_print.proofs.items.write_item.Goals as goal

pub returns-in_ok-write_struct_body-in-Struct : goal.returns-in_ok-write_struct_body-in-Struct
returns-in_ok-write_struct_body-in-Struct c = rw c.in-Struct.is (ends _ _ c.write_word-in-Struct.result
    (then c.in_ok-write_word-in-Struct.ensures
    (then c.in_ok-write_name-in-Struct.ensures
    (at_same print_struct_body _ _ (ap (map fields_tree) c.deref.ensures.value) _ _ c.in_ok-write_struct_body-in-Struct.ensures)))
    c.write_word-in-Struct.ensures)

pub returns-in_ok-write_name-in-TypedefStruct : goal.returns-in_ok-write_name-in-TypedefStruct
returns-in_ok-write_name-in-TypedefStruct c = rw c.in-TypedefStruct.is (ends _ _ c.write_word-in-TypedefStruct-3.result
    (then c.in_ok-write_word-in-TypedefStruct.ensures
    (then c.in_ok-write_word-in-TypedefStruct-2.ensures
    (then c.in_ok-write_optional_name-in-TypedefStruct.ensures
    (then (at_same print_struct_body _ _
    (ap (map fields_tree) c.deref-in-TypedefStruct.ensures.value) _ _ c.in_ok-write_struct_body-in-TypedefStruct.ensures)
    c.in_ok-write_name-in-TypedefStruct.ensures))))
    c.write_word-in-TypedefStruct-3.ensures)

pub returns-in_ok-write_name-in-TypedefAlias-2 : goal.returns-in_ok-write_name-in-TypedefAlias-2
returns-in_ok-write_name-in-TypedefAlias-2 c = rw c.in-TypedefAlias.is (ends _ _ c.write_word-in-TypedefAlias-3.result
    (then c.in_ok-write_word-in-TypedefAlias.ensures
    (then c.in_ok-write_word-in-TypedefAlias-2.ensures
    (then c.in_ok-write_name-in-TypedefAlias.ensures c.in_ok-write_name-in-TypedefAlias-2.ensures)))
    c.write_word-in-TypedefAlias-3.ensures)
