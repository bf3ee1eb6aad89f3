-- Programs that are alike up to the names of their functions and types.
use Rattle.std.specs.Prelude.{◌≡◌, true, false, List, [], ◌∷◌, Option, Some, None}
use Rattle.shader_kernel.specs.Kernel.{Constant, Number, Logical, Null, Node, One, Two, Part, Pick, Spread, Repeat, Fill, Expr, Known, Pure, Read, Element, Short, Choose, Call, Exprs, NoExpr, More, Numbers, NoNumber, Index, Place, At, Givens, NoGiven, Lent, Stat, Skip, Seq, Put, Change, If, When, Loop, Return, Give, Break, Continue, Run, Parameter, Function}
use Rattle.shader_kernel.specs.Kernel as kernel
use Rattle.shader_kernel.specs.Meaning.{Program}

-- which names of callees, and which names of types, stand for one another
module _ {C D T U : Type 0} (AreCallees : C → D → Type 0) (AreTypes : T → U → Type 0) where
  abbrev pub AlikeConstants : Constant T → Constant U → Type 0
  AlikeConstants (Number s n) (Number s' n') = (s ≡ s') × (n ≡ n')
  AlikeConstants (Logical b) (Logical b') = b ≡ b'
  AlikeConstants (Null t) (Null t') = AreTypes t t'
  AlikeConstants c c' = ⊥

  abbrev pub AlikeTypes : List T → List U → Type 0
  AlikeTypes [] [] = Unit {0}
  AlikeTypes (t ∷ ts) (u ∷ us) = AreTypes t u × AlikeTypes ts us
  AlikeTypes ts us = ⊥

  abbrev pub AlikeNodes : Node T → Node U → Type 0
  AlikeNodes (One u) (One u') = u ≡ u'
  AlikeNodes (Two b) (Two b') = b ≡ b'
  AlikeNodes (Part k) (Part k') = k ≡ k'
  AlikeNodes (Pick ks) (Pick ks') = ks ≡ ks'
  AlikeNodes (Spread ns) (Spread ns') = ns ≡ ns'
  AlikeNodes (Repeat n) (Repeat n') = n ≡ n'
  AlikeNodes (Fill ts) (Fill us) = AlikeTypes ts us
  AlikeNodes x y = ⊥

  abbrev mutual
    pub AlikeExpr : Expr C T → Expr D U → Type 0
    AlikeExpr (Known c) (Known c') = AlikeConstants c c'
    AlikeExpr (Pure node of parts) (Pure node' of' parts') = AlikeNodes node node' × AreTypes of of' × AlikeExprs parts parts'
    AlikeExpr (Read p) (Read p') = AlikePlaces p p'
    AlikeExpr (Element of v signed i) (Element of' v' signed' i') = (signed ≡ signed') × AreTypes of of' × AlikeExpr v v' × AlikeExpr i i'
    AlikeExpr (Short true a b) (Short true a' b') = AlikeExpr a a' × AlikeExpr b b'
    AlikeExpr (Short false a b) (Short false a' b') = AlikeExpr a a' × AlikeExpr b b'
    AlikeExpr (Choose of t a b) (Choose of' t' a' b') = AreTypes of of' × AlikeExpr t t' × AlikeExpr a a' × AlikeExpr b b'
    AlikeExpr (Call c of gs) (Call c' of' gs') = AreCallees c c' × AreTypes of of' × AlikeGivens gs gs'
    AlikeExpr e e' = ⊥

    pub AlikeExprs : Exprs C T → Exprs D U → Type 0
    AlikeExprs NoExpr NoExpr = Unit {0}
    AlikeExprs (More e es) (More e' es') = AlikeExpr e e' × AlikeExprs es es'
    AlikeExprs es es' = ⊥

    pub AlikeNumbers : Numbers C T → Numbers D U → Type 0
    AlikeNumbers NoNumber NoNumber = Unit {0}
    AlikeNumbers (Index s e rest) (Index s' e' rest') = (s ≡ s') × AlikeExpr e e' × AlikeNumbers rest rest'
    AlikeNumbers ns ns' = ⊥

    pub AlikePlaces : Place C T → Place D U → Type 0
    AlikePlaces (At root ns of) (At root' ns' of') = (root ≡ root') × AlikeNumbers ns ns' × AreTypes of of'

    pub AlikeGivens : Givens C T → Givens D U → Type 0
    AlikeGivens NoGiven NoGiven = Unit {0}
    AlikeGivens (kernel.Value e gs) (kernel.Value e' gs') = AlikeExpr e e' × AlikeGivens gs gs'
    AlikeGivens (Lent true p gs) (Lent true p' gs') = AlikePlaces p p' × AlikeGivens gs gs'
    AlikeGivens (Lent false p gs) (Lent false p' gs') = AlikePlaces p p' × AlikeGivens gs gs'
    AlikeGivens gs gs' = ⊥

  abbrev pub AlikeStats : Stat C T → Stat D U → Type 0
  AlikeStats Skip Skip = Unit {0}
  AlikeStats (Seq a b) (Seq a' b') = AlikeStats a a' × AlikeStats b b'
  AlikeStats (Put p e) (Put p' e') = AlikePlaces p p' × AlikeExpr e e'
  AlikeStats (Change b before after p e) (Change b' before' after' p' e') = (b ≡ b') × (before ≡ before') × (after ≡ after') × AlikePlaces p p' × AlikeExpr e e'
  AlikeStats (If t a b) (If t' a' b') = AlikeExpr t t' × AlikeStats a a' × AlikeStats b b'
  AlikeStats (When t a) (When t' a') = AlikeExpr t t' × AlikeStats a a'
  AlikeStats (Loop t a b) (Loop t' a' b') = AlikeExpr t t' × AlikeStats a a' × AlikeStats b b'
  AlikeStats Return Return = Unit {0}
  AlikeStats (Give e) (Give e') = AlikeExpr e e'
  AlikeStats Break Break = Unit {0}
  AlikeStats Continue Continue = Unit {0}
  AlikeStats (Run c gs) (Run c' gs') = AreCallees c c' × AlikeGivens gs gs'
  AlikeStats s s' = ⊥

  abbrev pub AlikeParameters : List (Parameter T) → List (Parameter U) → Type 0
  AlikeParameters [] [] = Unit {0}
  AlikeParameters (x ∷ xs) (y ∷ ys) = (x.mode ≡ y.mode) × AreTypes x.of y.of × AlikeParameters xs ys
  AlikeParameters xs ys = ⊥

  pub record AlikeFunctions (f : Function C T) (g : Function D U) : Type 0 where
    pub parameters : AlikeParameters f.parameters g.parameters
    pub gives : f.gives ≡ g.gives
    pub locals : AlikeTypes f.locals g.locals
    pub body : AlikeStats f.body g.body

  -- both are there and alike, or neither is
  abbrev pub AlikeIfThere : Option (Function C T) → Option (Function D U) → Type 0
  AlikeIfThere None None = Unit {0}
  AlikeIfThere (Some f) (Some g) = AlikeFunctions f g
  AlikeIfThere x y = ⊥

  -- types that stand for one another have one zero, callees that stand for one another are alike, and so do the entries
  pub record AlikePrograms (p : Program C T) (q : Program D U) : Type 0 where
    pub buffers : p.buffers ≡ q.buffers
    pub zeros : (t : T) (u : U) → AreTypes t u → p.zero_of t ≡ q.zero_of u
    pub functions : (c : C) (d : D) → AreCallees c d → AlikeIfThere (p.function c) (q.function d)
    pub entry : AreCallees p.entry q.entry
    pub inputs : p.inputs ≡ q.inputs
