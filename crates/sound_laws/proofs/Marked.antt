-- A sound database stays sound where the ancient history mark becomes an epoch that each up-to-date projection has reached.
use Rattle.std.proofs.Common.{◌≡◌, ◌≤◌, ℕ, Bool, true, false, List, [], ◌∷◌, refl, sym, subst, arith}
use Rattle.std.specs.Bool.{OnTrue}
use Rattle.std.specs.List.{All}
use Rattle.std.proofs.lemmas.List.Elements.{All-head, All-tail, All-cons, All-nil}
use Rattle.db_model.specs.Database.{Database, Table, Shape}
use Rattle.db_model.specs.Sound.{HasEpochs, ReachesMark, IsSoundShape, IsSoundTable, IsSoundDatabase}

-- what an up-to-date projection has on disk reaches an epoch
abbrev Reaches : ℕ → Shape → Type 0
Reaches mark s = s.fresh ≡ true → mark ≤ s.lge

shape_marked : (d e : Database) (s : Shape) → e.last ≡ d.last → Reaches e.ahm s → IsSoundShape d s → IsSoundShape e s
shape_marked d e s last reach sound = by s.fresh reach sound
  where
    by : (b : Bool) → (b ≡ true → e.ahm ≤ s.lge) → OnTrue b (ReachesMark d s) → OnTrue b (ReachesMark e s)
    by true le is = record { mark = le refl; closed = let closed = is.closed in omega (arith, closed, last) }
    by false le is = tt

shapes_marked : (d e : Database) (ss : List Shape) → e.last ≡ d.last → All (Reaches e.ahm) ss → All (IsSoundShape d) ss → All (IsSoundShape e) ss
shapes_marked d e [] last reach sound = All-nil (IsSoundShape e)
shapes_marked d e (s ∷ ss) last reach sound =
    All-cons (IsSoundShape e) s ss (shape_marked d e s last (All-head (Reaches e.ahm) s ss reach) (All-head (IsSoundShape d) s ss sound))
    (shapes_marked d e ss last (All-tail (Reaches e.ahm) s ss reach) (All-tail (IsSoundShape d) s ss sound))

tables_marked : (d e : Database) (ts : List Table) → e.last ≡ d.last → All (λ t. All (Reaches e.ahm) t.shapes) ts → All (IsSoundTable d) ts → All (IsSoundTable e) ts
tables_marked d e [] last reach sound = All-nil (IsSoundTable e)
tables_marked d e (t ∷ ts) last reach sound =
    let here = All-head (IsSoundTable d) t ts sound in
    All-cons (IsSoundTable e) t ts
    (record {
      rows = here.rows;
      epochs = subst (λ (x : ℕ). All (HasEpochs x) t.rows) (sym last) here.epochs;
      shapes = shapes_marked d e t.shapes last (All-head (λ u. All (Reaches e.ahm) u.shapes) t ts reach) here.shapes;
      super = here.super;
    })
    (tables_marked d e ts last (All-tail (λ u. All (Reaches e.ahm) u.shapes) t ts reach) (All-tail (IsSoundTable d) t ts sound))

pub marked_sound : (d : Database) (mark : ℕ) → mark ≤ d.last → All (λ t. All (λ s. s.fresh ≡ true → mark ≤ s.lge) t.shapes) d.tables → IsSoundDatabase d → IsSoundDatabase (record d { ahm = mark })
marked_sound d mark le reach sound = record { names = sound.names; tables = tables_marked d (record d { ahm = mark }) d.tables refl reach sound.tables; mark = le }
