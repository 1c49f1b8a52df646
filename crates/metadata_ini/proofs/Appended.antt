-- Pieces that are appended one after the other.
use Rattle.std.proofs.Common.{◌≡◌, ℕ, List, [], ◌∷◌, ◌++◌, map, codes, ◌≢◌, refl, sym, ◌∙◌, ap, append_assoc, append-nil, ◌==◌}
use Rattle.std.specs.List.{flat_map}
use Rattle.std.proofs.lemmas.Bool.{cond-true, cond-false, ne_eqb, eq-eqb}
use Rattle.folder_forms.specs.Metadata.{HasMetadata, IsMetadataText, TableNames, ended, file_line, position_lines, table_line, table_lines, lines_of}
use Rattle.folder_forms.specs.declared.metadata.FileLine.{FileLine}
use Rattle.folder_forms.specs.declared.metadata.Metadata.{Metadata}
use Rattle.metadata_ini.specs.Writing.{AppendsHead, AppendsTables, AppendsEnd, head_lines}
use Rattle.metadata_ini.proofs.TableLists.{has_tables}

-- a piece more
pub piece : (old a b n m : List ℕ) → n ≡ old ++ a → m ≡ n ++ b → m ≡ old ++ (a ++ b)
piece old a b n m p q = q ∙ ap (λ l. l ++ b) p ∙ append_assoc old a b

regroup7 : (a b c d e f g : List ℕ) → a ++ b ++ c ++ d ++ e ++ f ++ g ≡ a ++ (b ++ (c ++ (d ++ (e ++ (f ++ g)))))
regroup7 a b c d e f g = simp append_assoc

-- a line and what follows it
pub ended_line : (word value rest : List ℕ) → ended (word ++ value) ++ rest ≡ word ++ (value ++ 10 ∷ rest)
ended_line word value rest = append_assoc (word ++ value) (10 ∷ []) rest ∙ append_assoc word value (10 ∷ rest)

three_lines : (a x b y c z : List ℕ) → ended (a ++ x) ++ (ended (b ++ y) ++ (ended (c ++ z) ++ [])) ≡ a ++ (x ++ 10 ∷ (b ++ (y ++ 10 ∷ (c ++ (z ++ 10 ∷ [])))))
three_lines a x b y c z =
    ended_line a x (ended (b ++ y) ++ (ended (c ++ z) ++ []))
    ∙ ap (λ l. a ++ (x ++ 10 ∷ l)) (ended_line b y (ended (c ++ z) ++ []) ∙ ap (λ l. b ++ (y ++ 10 ∷ l)) (ended_line c z []))

pub position_pieces : (file offset gtid : List ℕ) → codes "[position]\nfile=" ++ file ++ codes "\noffset=" ++ offset ++ codes "\ngtid=" ++ gtid ++ codes "\n"
    ≡ flat_map ended (codes "[position]" ∷ (codes "file=" ++ file) ∷ (codes "offset=" ++ offset) ∷ (codes "gtid=" ++ gtid) ∷ [])
position_pieces file offset gtid =
    regroup7 (codes "[position]\nfile=") file (codes "\noffset=") offset (codes "\ngtid=") gtid (codes "\n")
    ∙ ap (λ l. codes "[position]\n" ++ l) (sym (three_lines (codes "file=") file (codes "offset=") offset (codes "gtid=") gtid))

pub head_pieces : (version started finished : List ℕ) → codes "[dump]\nversion=" ++ version ++ codes "\nstarted=" ++ started ++ codes "\nfinished=" ++ finished ++ codes "\n"
    ≡ flat_map ended (codes "[dump]" ∷ (codes "version=" ++ version) ∷ (codes "started=" ++ started) ∷ (codes "finished=" ++ finished) ∷ [])
head_pieces version started finished =
    regroup7 (codes "[dump]\nversion=") version (codes "\nstarted=") started (codes "\nfinished=") finished (codes "\n")
    ∙ ap (λ l. codes "[dump]\n" ++ l) (sym (three_lines (codes "version=") version (codes "started=") started (codes "finished=") finished))

pub flat_more : {X : Type 0} (f : X → List ℕ) (xs : List X) (x : X) → flat_map f (xs ++ x ∷ []) ≡ flat_map f xs ++ f x
flat_more f [] x = append-nil (f x)
flat_more f (y ∷ xs) x = ap (λ l. f y ++ l) (flat_more f xs x) ∙ sym (append_assoc (f y) (flat_map f xs) (f x))

pub flat_joined : {X : Type 0} (f : X → List ℕ) (xs ys : List X) → flat_map f (xs ++ ys) ≡ flat_map f xs ++ flat_map f ys
flat_joined f [] ys = refl
flat_joined f (x ∷ xs) ys = ap (λ l. f x ++ l) (flat_joined f xs ys) ∙ sym (append_assoc (f x) (flat_map f xs) (flat_map f ys))

-- what follows the lines of files, in both versions

pub no_end : (old : List ℕ) (version : ℕ) (files : List FileLine) → version ≢ 2 → AppendsEnd old old version files
no_end old version files other =
    let t = has_tables files in
    record { tables = t.tables; are = t.are; is = sym (ap (λ l. old ++ flat_map ended l) (cond-false (version == 2) _ _ (ne_eqb version 2 other)) ∙ append-nil old) }

pub tables_end : (old middle new : List ℕ) (version : ℕ) (files : List FileLine) → version ≡ 2 → middle ≡ old ++ codes "[tables]\n" → AppendsTables middle new files → AppendsEnd old new version files
tables_end old middle new version files is first rest = record {
  tables = rest.tables;
  are = rest.are;
  is = piece old (codes "[tables]\n") (flat_map ended (map table_line rest.tables)) middle new first rest.is ∙ ap (λ l. old ++ flat_map ended l) (sym (cond-true (version == 2) _ _ (eq-eqb version 2 is)));
}

-- the whole

grouped : (a b c d e : List ℕ) → a ++ b ++ c ++ d ++ e ≡ a ++ (b ++ (c ++ (d ++ e)))
grouped a b c d e = simp append_assoc

lines_divided : (value : Metadata) (started finished : List ℕ) (tables : List (TableNames × ℕ)) → flat_map ended (lines_of value started finished tables)
    ≡ flat_map ended (head_lines value.version started finished) ++ (flat_map ended (position_lines value.position) ++ (codes "[files]\n" ++ (flat_map ended (map file_line value.files) ++ flat_map ended (table_lines value.version tables))))
lines_divided value started finished tables =
    flat_joined ended (head_lines value.version started finished) (position_lines value.position ++ (codes "[files]" ∷ (map file_line value.files ++ table_lines value.version tables)))
    ∙ ap (λ l. flat_map ended (head_lines value.version started finished) ++ l) (flat_joined ended (position_lines value.position) (codes "[files]" ∷ (map file_line value.files ++ table_lines value.version tables))
    ∙ ap (λ l. flat_map ended (position_lines value.position) ++ (codes "[files]\n" ++ l)) (flat_joined ended (map file_line value.files) (table_lines value.version tables)))

pub whole_text : (value : Metadata) (o1 o2 o3 o4 o5 : List ℕ) → HasMetadata value → AppendsHead [] o1 value → o2 ≡ o1 ++ flat_map ended (position_lines value.position)
    → o3 ≡ o2 ++ codes "[files]\n" → o4 ≡ o3 ++ flat_map ended (map file_line value.files) → AppendsEnd o4 o5 value.version value.files → IsMetadataText o5 value
whole_text value o1 o2 o3 o4 o5 may head p q r end =
    let h = flat_map ended (head_lines value.version head.started_text head.finished_text) in
    let o = flat_map ended (position_lines value.position) in
    let g = flat_map ended (map file_line value.files) in
    let t = flat_map ended (table_lines value.version end.tables) in
    record {
      lines = _;
      are = record {
        may_be = may;
        started_text = head.started_text;
        finished_text = head.finished_text;
        tables = end.tables;
        started = head.started;
        finished = head.finished;
        tables_are = end.are;
        are = refl;
      };
      is = end.is ∙ ap (λ l. l ++ t) (r ∙ ap (λ l. l ++ g) (q ∙ ap (λ l. l ++ codes "[files]\n") (p ∙ ap (λ l. l ++ o) head.is)))
          ∙ grouped h o (codes "[files]\n") g t ∙ sym (lines_divided value head.started_text head.finished_text end.tables);
    }
