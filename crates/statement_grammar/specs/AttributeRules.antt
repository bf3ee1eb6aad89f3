-- Which attributes are taken, and where: the rules beside the grammar.
use Rattle.std.specs.Prelude.{ℕ, Bool, true, false, ◌&&◌, ◌||◌, ◌==◌, not, List, [], ◌∷◌, map, codes, Option, Some, None}
use Rattle.std.specs.List.{list_all}
use Rattle.std.specs.Str.{bytes_eq}
use Rattle.slang_tree.specs.declared.statements.Attribute.{Attribute}
use Rattle.slang_tree.specs.declared.statements.AttributeNode.{AttributeNode}
use Rattle.slang_tree.specs.declared.statements.AttributeNode.TheVariants as n
use Rattle.slang_tree.specs.declared.statements.Literal.{Literal}
use Rattle.slang_tree.specs.declared.statements.Literal.TheVariants as l
use Rattle.slang_tree.specs.declared.statements.StatTree.{StatTree, fold-StatTree}
use Rattle.slang_tree.specs.declared.statements.StatNode.TheOpen.{StatNode-F, StatTree-F}
use Rattle.slang_tree.specs.declared.statements.StatNode.TheOpen as s
use Rattle.statement_grammar.specs.declared.attributes.KnownAttribute.{KnownAttribute}
use Rattle.statement_grammar.specs.declared.attributes.KnownAttribute.TheVariants as a
use Rattle.statement_grammar.specs.declared.attributes.Target.{Target}
use Rattle.statement_grammar.specs.declared.attributes.Target.TheVariants as t
use Rattle.statement_grammar.specs.AttributeTables.{attribute_of, may_stand, attribute_code}

-- what an attribute wants between its parentheses
pub data Want : Type 0 where
  WantsNumber : Want
  WantsText : List ℕ → Want

-- what it wants, in order; where that is nothing it has no parentheses
abbrev pub wants_of : Option KnownAttribute → List Want
wants_of (Some a.Shader) = WantsText (codes "compute") ∷ []
wants_of (Some a.NumThreads) = WantsNumber ∷ WantsNumber ∷ WantsNumber ∷ []
wants_of _ = []

abbrev pub meets : Want → Literal → Bool
meets WantsNumber (l.Number p v) = true
meets (WantsText text) (l.String p bytes) = bytes_eq text bytes
meets _ _ = false

abbrev pub all_meet : List Want → List Literal → Bool
all_meet [] [] = true
all_meet (x ∷ xs) (y ∷ ys) = meets x y && all_meet xs ys
all_meet _ _ = false

abbrev pub known_of : AttributeNode → Option KnownAttribute
known_of (n.Named id list) = attribute_of id.name
known_of (n.Binding b s) = Some a.Binding

abbrev pub literals_of : AttributeNode → List Literal
literals_of (n.Named id list) = list
literals_of (n.Binding b s) = []

-- a known attribute that may stand before such a thing, with what it wants
abbrev pub fits_as : Target → Option KnownAttribute → List Literal → Bool
fits_as target (Some known) list = may_stand known target && all_meet (wants_of (Some known)) list
fits_as target None list = false

abbrev pub fits : Target → Attribute → Bool
fits target x = fits_as target (known_of x.node) (literals_of x.node)

abbrev pub same_attribute : Option KnownAttribute → Option KnownAttribute → Bool
same_attribute (Some x) (Some y) = attribute_code x == attribute_code y
same_attribute _ _ = false

-- no two of one name
abbrev pub all_differ : List (Option KnownAttribute) → Bool
all_differ [] = true
all_differ (x ∷ xs) = list_all (λ y. not (same_attribute x y)) xs && all_differ xs

-- whether these attributes may stand together before such a thing
abbrev pub obeys : Target → List Attribute → Bool
obeys target list = list_all (fits target) list && all_differ (map (λ x. known_of x.node) list)

-- ---- in statements

abbrev pub all_true : List Bool → Bool
all_true [] = true
all_true (x ∷ xs) = x && all_true xs

abbrev pub stat_step : StatNode-F Bool Bool → Bool
stat_step (s.Block list) = all_true list
stat_step (s.Local x) = true
stat_step (s.Change x) = true
stat_step s.Empty = true
stat_step (s.If x y) = y
stat_step (s.IfElse x y z) = y && z
stat_step (s.For list x y z body) = obeys t.Loop list && body
stat_step (s.While list x body) = obeys t.Loop list && body
stat_step (s.Return x) = true
stat_step s.Break = true
stat_step s.Continue = true

abbrev pub stat_tree_step : StatTree-F Bool Bool → Bool
stat_tree_step x = x.node

-- whether all attributes in a statement are taken
abbrev pub stat_obeys : StatTree → Bool
stat_obeys = fold-StatTree Bool Bool stat_step stat_tree_step
