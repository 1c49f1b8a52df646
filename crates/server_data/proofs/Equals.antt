-- Equality by the tests is equality.
use Rattle.std.proofs.Common.{◌≡◌, ℕ, ◌==◌, arith, cond, true, List, Option, Some, None, refl, sym, ◌∙◌, ap, Decides, bytes_eq}
use Rattle.std.proofs.lemmas.Bool.Decides.{Decides-eqb}
use Rattle.std.proofs.lemmas.Slice.Eq.{bytes_eq-Decides, slice_eq-Decides}
use Rattle.object_forms.specs.declared.kind.Kind.{Kind}
use Rattle.object_forms.specs.declared.kind.Kind.TheVariants.{Schema, Table, Procedure, Function, View, Trigger, Event}
use Rattle.sql_cells.specs.declared.cell.Cell.{Cell}
use Rattle.sql_cells.specs.declared.cell.Cell.TheVariants.{Null, Value}
use Rattle.server_data.proofs.Counts.{and_both, and_left, and_right}
use Rattle.server_data.specs.Agree.{object_eq, settings_eq}
use Rattle.server_data.specs.Equal.{cell_eq, kind_eq, kind_number, row_eq}
use Rattle.server_data.specs.declared.data.Object.{Object}
use Rattle.server_data.specs.declared.data.Settings.{Settings}

-- the kind of a number
abbrev kind_at : ℕ → Kind
kind_at number = cond (number == 0) Schema (cond (number == 1) Table (cond (number == 2) Procedure (cond (number == 3) Function (cond (number == 4) View (cond (number == 5) Trigger (Event))))))

kind_at_number : (kind : Kind) → kind_at (kind_number kind) ≡ kind
kind_at_number Schema = refl
kind_at_number Table = refl
kind_at_number Procedure = refl
kind_at_number Function = refl
kind_at_number View = refl
kind_at_number Trigger = refl
kind_at_number Event = refl

pub kind_is : (one other : Kind) → kind_eq one other ≡ true → one ≡ other
kind_is one other e =
    sym (kind_at_number one) ∙ (ap kind_at ((Decides-eqb (kind_number one) (kind_number other)).0 e) ∙ kind_at_number other)

pub bytes_are : (a b : List ℕ) → bytes_eq a b ≡ true → a ≡ b
bytes_are a b e = (bytes_eq-Decides a b).0 e

pub cell_eq-Decides : (a b : Cell) → Decides (cell_eq a b) (a ≡ b)
cell_eq-Decides Null Null = (λ e. refl, λ e. refl)
cell_eq-Decides (Value a) (Value b) = (λ e. ap (λ (l : List ℕ). Value l) ((bytes_eq-Decides a b).0 e), λ e. (bytes_eq-Decides a b).1 (cc))
cell_eq-Decides Null (Value b) = (λ e. cc, λ e. cc)
cell_eq-Decides (Value a) Null = (λ e. cc, λ e. cc)

pub row_is : (a b : List Cell) → row_eq a b ≡ true → a ≡ b
row_is a b e = (slice_eq-Decides cell_eq-Decides a b (row_eq a b) refl).0 e

kind_itself : (kind : Kind) → kind_eq kind kind ≡ true
kind_itself kind = (Decides-eqb (kind_number kind) (kind_number kind)).1 refl

bytes_itself : (a : List ℕ) → bytes_eq a a ≡ true
bytes_itself a = (bytes_eq-Decides a a).1 refl

settings_itself : (settings : Option Settings) → settings_eq settings settings ≡ true
settings_itself None = refl
settings_itself (Some a) = and_both _ _ (bytes_itself a.sql_mode) (and_both _ _ (bytes_itself a.client) (and_both _ _ (bytes_itself a.collation) (bytes_itself a.zone)))

pub object_itself : (object : Object) → object_eq object object ≡ true
object_itself object =
    and_both _ _ (kind_itself object.kind) (and_both _ _ (bytes_itself object.schema) (and_both _ _ (bytes_itself object.name) (and_both _ _ (bytes_itself object.text) (settings_itself object.settings))))

pub settings_are : (a b : Option Settings) → settings_eq a b ≡ true → a ≡ b
settings_are None None e = refl
settings_are None (Some b) e = absurd (cc)
settings_are (Some a) None e = absurd (cc)
settings_are (Some a) (Some b) e =
    let after_mode = and_right (bytes_eq a.sql_mode b.sql_mode) _ e in
    let after_client = and_right (bytes_eq a.client b.client) _ after_mode in
    let mode = bytes_are a.sql_mode b.sql_mode (and_left _ _ e) in
    let client = bytes_are a.client b.client (and_left _ _ after_mode) in
    let collation = bytes_are a.collation b.collation (and_left _ _ after_client) in
    let zone = bytes_are a.zone b.zone (and_right (bytes_eq a.collation b.collation) _ after_client) in
    ap (λ (s : Settings). Some s) (same_fields a b mode client collation zone)
  where
    same_fields : (a b : Settings) → a.sql_mode ≡ b.sql_mode → a.client ≡ b.client → a.collation ≡ b.collation → a.zone ≡ b.zone → a ≡ b
    same_fields a b mode client collation zone = grind (arith, mode, client, collation, zone)
