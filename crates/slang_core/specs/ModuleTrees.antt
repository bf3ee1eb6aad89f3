-- What a module spells, as a tree.
use Rattle.slang_core.specs.declared.declarations.CoreModule.{CoreModule}
use Rattle.slang_core.specs.DeclarationTrees.{interface_tree}
use Rattle.slang_core.specs.BodyTrees.{body_tree}
use Rattle.form_grammar.specs.Trees.{Tree, byte, ◌▸◌, list_of}

-- four bytes, the version, and the parts
abbrev pub module_tree : CoreModule → Tree
module_tree m = byte 0x53 ▸ byte 0x4C ▸ byte 0x4D ▸ byte 0x4F ▸ byte 1 ▸ list_of interface_tree m.reached ▸ interface_tree m.own ▸ list_of body_tree m.bodies
