-- Files of which no two have one name.
use Rattle.std.proofs.Common.{◌≡◌, ℕ, true, false, ◌||◌, nat_eq, Decides, Contains, get_or, append-nil, Result, Ok, Err, OnOk, OnErr, Option, Some, None, IfSome, List, [], ◌∷◌, ◌++◌, refl, sym, ap, ◌∙◌, subst, arith}
use Rattle.std.specs.Cmp.Lexicographic.{pointwise}
use Rattle.std.proofs.lemmas.List.Elements.{Contains-append_right}
use Rattle.std.specs.List.{list_any, flat_map}
use Rattle.std.proofs.lemmas.Bool.{or_parts, or_from, or_left, or_right, cond_both, false_from_ne_true, true≢false, eqb-true, eq-eqb}
use Rattle.std.proofs.lemmas.List.Folds.{list_any-append, list_any_at}
use Rattle.std.proofs.lemmas.List.Concat.{flat_map-append}
use Rattle.std.proofs.lemmas.List.{get_or-map, length-map}
use Rattle.std.proofs.lemmas.Slice.Eq.{slice_eq-Decides}
use Rattle.link_traits.specs.Contents.{File, file_names, is_named, has_name, HaveOwnNames, ShareNoName}
use Rattle.link_traits.specs.Folder.{without, with_name, files_after_rename}
use Rattle.memory_outside.specs.Memory.{with_file}

same : (a b : List ℕ) → Decides (pointwise nat_eq a b) (a ≡ b)
same a b = slice_eq-Decides (λ m n. (eqb-true m n, eq-eqb m n)) a b (pointwise nat_eq a b) refl

-- names that differ do so the other way round too
pub turned : (a b : List ℕ) → pointwise nat_eq a b ≡ false → pointwise nat_eq b a ≡ false
turned a b e = false_from_ne_true (pointwise nat_eq b a) (λ t. true≢false (sym ((same a b).1 (sym ((same b a).0 t))) ∙ e))

-- a name that differs from the file's and stands in none of the others
cons_none : (name : List ℕ) (file : File) (files : List File) → is_named name file ≡ false → has_name name files ≡ false → has_name name (file ∷ files) ≡ false
cons_none name file files = or_from (is_named name file) (has_name name files)

parts : (name : List ℕ) (file : File) (files : List File) → has_name name (file ∷ files) ≡ false → (is_named name file ≡ false) × (has_name name files ≡ false)
parts name file files = or_parts (is_named name file) (has_name name files)

-- of a name that a file has, what holds of its name
moved : (name : List ℕ) (file : File) (files : List File) → is_named name file ≡ true → has_name file.name files ≡ false → has_name name files ≡ false
moved name file files e = subst (λ n. has_name n files ≡ false) ((same file.name name).0 e)

-- one file more, whose name is new
pub own_names_pushed : (files : List File) (file : File) → HaveOwnNames files → has_name file.name files ≡ false → HaveOwnNames (files ++ file ∷ [])
own_names_pushed [] file own new = (refl, tt)
own_names_pushed (first ∷ files) file own new =
    let apart = parts file.name first files new in
    let here : has_name first.name (files ++ file ∷ []) ≡ false = list_any-append (is_named first.name) files (file ∷ []) ∙ or_from (has_name first.name files) (has_name first.name (file ∷ [])) own.0 (cons_none first.name file [] (turned first.name file.name apart.0) refl) in
    (here, own_names_pushed files file own.1 apart.1)

-- a name that stands in the files is among their names
pub named : (name : List ℕ) (files : List File) → has_name name files ≡ true → Contains (file_names files) name
named name [] h = absurd (true≢false (sym h))
named name (file ∷ files) h =
    elim (is_named name file) as (λ b. is_named name file ≡ b → (b || has_name name files) ≡ true → Contains (file_names (file ∷ files)) name) [
      | true ↦ λ e _. (0, omega arith, (same file.name name).0 e)
      | false ↦ λ _ t. Contains-append_right (file.name ∷ []) (file_names files) name (named name files t)
    ] refl h

-- two lists whose names are apart
pub own_names_joined : (files others : List File) → HaveOwnNames files → HaveOwnNames others → ((name : List ℕ) → has_name name files ≡ true → has_name name others ≡ false) → HaveOwnNames (files ++ others)
own_names_joined [] others own own_others apart = own_others
own_names_joined (file ∷ files) others own own_others apart =
    let itself : has_name file.name (file ∷ files) ≡ true = or_left (is_named file.name file) (has_name file.name files) ((same file.name file.name).1 refl) in
    let here : has_name file.name (files ++ others) ≡ false = list_any-append (is_named file.name) files others ∙ or_from (has_name file.name files) (has_name file.name others) own.0 (apart file.name itself) in
    (here, own_names_joined files others own.1 own_others (λ name t. apart name (or_right (is_named name file) (has_name name files) t)))

pub own_names_appended : (files others : List File) → HaveOwnNames files → HaveOwnNames others → ShareNoName others files → HaveOwnNames (files ++ others)
own_names_appended files others own own_others apart =
    own_names_joined files others own own_others (λ name t. false_from_ne_true (has_name name others) (λ u. apart name (named name others u) (named name files t)))

-- without one of the files
without_none : (name other : List ℕ) (files : List File) → has_name other files ≡ false → has_name other (without name files) ≡ false
without_none name other [] none = refl
without_none name other (file ∷ files) none =
    let apart = parts other file files none in
    cond_both (is_named name file) files (file ∷ without name files) (λ l. has_name other l ≡ false) (λ _. apart.1) (λ _. cons_none other file (without name files) apart.0 (without_none name other files apart.1))

pub own_names_without : (name : List ℕ) (files : List File) → HaveOwnNames files → HaveOwnNames (without name files)
own_names_without name [] own = tt
own_names_without name (file ∷ files) own =
    cond_both (is_named name file) files (file ∷ without name files) HaveOwnNames (λ _. own.1) (λ _. (without_none name file.name files own.0, own_names_without name files own.1))

-- the name doesn't stand any more
pub without_it : (name : List ℕ) (files : List File) → HaveOwnNames files → has_name name (without name files) ≡ false
without_it name [] own = refl
without_it name (file ∷ files) own =
    cond_both (is_named name file) files (file ∷ without name files) (λ l. has_name name l ≡ false) (λ e. moved name file files e own.0) (λ e. cons_none name file (without name files) e (without_it name files own.1))

-- with another name
with_name_none : (from to other : List ℕ) (files : List File) → has_name other files ≡ false → pointwise nat_eq to other ≡ false → has_name other (with_name from to files) ≡ false
with_name_none from to other [] none differs = refl
with_name_none from to other (file ∷ files) none differs =
    let apart = parts other file files none in
    let new : File = record file { name = to } in
    cond_both (is_named from file) (new ∷ files) (file ∷ with_name from to files) (λ l. has_name other l ≡ false) (λ _. cons_none other new files differs apart.1) (λ _. cons_none other file (with_name from to files) apart.0 (with_name_none from to other files apart.1 differs))

pub own_names_with_name : (from to : List ℕ) (files : List File) → HaveOwnNames files → has_name to files ≡ false → HaveOwnNames (with_name from to files)
own_names_with_name from to [] own new = tt
own_names_with_name from to (file ∷ files) own new =
    let apart = parts to file files new in
    let renamed : File = record file { name = to } in
    cond_both (is_named from file) (renamed ∷ files) (file ∷ with_name from to files) HaveOwnNames (λ _. (apart.1, own.1)) (λ _. (with_name_none from to file.name files own.0 (turned file.name to apart.0), own_names_with_name from to files own.1 apart.1))

-- after a rename each name stands once
pub own_names_renamed : (from to : List ℕ) (files : List File) → HaveOwnNames files → HaveOwnNames (files_after_rename from to files)
own_names_renamed from to files own =
    cond_both (pointwise nat_eq from to) files (with_name from to (without to files)) HaveOwnNames (λ _. own) (λ _. own_names_with_name from to (without to files) (own_names_without to files own) (without_it to files own))

-- with a file put
with_file_none : (file : File) (other : List ℕ) (files : List File) → has_name other files ≡ false → is_named other file ≡ false → has_name other (with_file files file) ≡ false
with_file_none file other [] none differs = cons_none other file [] differs refl
with_file_none file other (first ∷ files) none differs =
    let apart = parts other first files none in
    cond_both (is_named file.name first) (file ∷ files) (first ∷ with_file files file) (λ l. has_name other l ≡ false) (λ _. cons_none other file files differs apart.1) (λ _. cons_none other first (with_file files file) apart.0 (with_file_none file other files apart.1 differs))

pub own_names_with_file : (file : File) (files : List File) → HaveOwnNames files → HaveOwnNames (with_file files file)
own_names_with_file file [] own = (refl, tt)
own_names_with_file file (first ∷ files) own =
    cond_both (is_named file.name first) (file ∷ files) (first ∷ with_file files file) HaveOwnNames
    (λ e. (moved file.name first files e own.0, own.1))
    (λ e. (with_file_none file first.name files own.0 (turned first.name file.name e), own_names_with_file file files own.1))

-- of two lists, where the names of the second don't stand in the first
pub has_named : (name : List ℕ) (files : List File) → Contains (file_names files) name → has_name name files ≡ true
has_named name files at =
    let unnamed : File = record { name = name; bytes = [] } in
    let long = length-map files (λ (file : File). file.name) in
    let lt = at.1 in
    let is : (get_or files at.0 unnamed).name ≡ name = sym (get_or-map (λ (file : File). file.name) files at.0 unnamed name (omega arith)) ∙ at.2 in
    list_any_at (is_named name) files at.0 unnamed (omega arith) ((same (get_or files at.0 unnamed).name name).1 is)

pub none_apart : (made files : List File) → list_any (λ file. has_name file.name made) files ≡ false → ShareNoName made files
none_apart made files none name of_made of_files =
    let unnamed : File = record { name = name; bytes = [] } in
    let long = length-map files (λ (file : File). file.name) in
    let lt = of_files.1 in
    let is : (get_or files of_files.0 unnamed).name ≡ name = sym (get_or-map (λ (file : File). file.name) files of_files.0 unnamed name (omega arith)) ∙ of_files.2 in
    let here : has_name (get_or files of_files.0 unnamed).name made ≡ true = ap (λ n. has_name n made) is ∙ has_named name made of_made in
    true≢false (sym (list_any_at (λ file. has_name file.name made) files of_files.0 unnamed (omega arith) here) ∙ none)

-- a file was put among the parts, or they are as they were
pub own_names_put : {X T E : Type 0} (result : Result T E) (f : X → List File) (old new : List X) (file : File) → HaveOwnNames (flat_map f old) → OnOk result (flat_map f new ≡ with_file (flat_map f old) file) → OnErr result (new ≡ old) → HaveOwnNames (flat_map f new)
own_names_put (Ok value) f old new file own put kept = subst HaveOwnNames (sym put) (own_names_with_file file (flat_map f old) own)
own_names_put (Err fault) f old new file own put kept = subst HaveOwnNames (sym (ap (flat_map f) kept)) own

-- one part more
pub own_names_part : {X : Type 0} (f : X → List File) (parts new : List X) (last : X) → new ≡ parts ++ last ∷ [] → HaveOwnNames (flat_map f parts) → HaveOwnNames (f last) → ShareNoName (f last) (flat_map f parts) → HaveOwnNames (flat_map f new)
own_names_part f parts new last more own own_last apart =
    let whole : flat_map f new ≡ flat_map f parts ++ f last = ap (flat_map f) more ∙ (flat_map-append f parts (last ∷ []) ∙ ap (λ (l : List File). flat_map f parts ++ l) (append-nil (f last))) in
    subst HaveOwnNames (sym whole) (own_names_appended (flat_map f parts) (f last) own own_last apart)

-- the file of the one name was taken out, and then the other got its name
pub own_names_moved : (old mid new : List File) (from to text : List ℕ) → text ≡ to → mid ≡ without to old → new ≡ with_name from text mid → HaveOwnNames old → HaveOwnNames new
own_names_moved old mid new from to text is out under own =
    subst HaveOwnNames (sym (under ∙ (ap (λ name. with_name from name mid) is ∙ ap (with_name from to) out))) (own_names_with_name from to (without to old) (own_names_without to old own) (without_it to old own))

-- the begun file counts as made
pub own_names_ended : (made new : List File) (begun after : Option File) (file : File) → new ≡ made ++ file ∷ [] → begun ≡ Some file → after ≡ None → HaveOwnNames made → IfSome begun (λ one. has_name one.name made ≡ false) → HaveOwnNames new × IfSome after (λ one. has_name one.name new ≡ false)
own_names_ended made new begun None file more is none own apart =
    let Apart : Option File → Type 0 = λ b. IfSome b (λ one. has_name one.name made ≡ false) in
    (subst HaveOwnNames (sym more) (own_names_pushed made file own (subst Apart is apart)), tt)
own_names_ended made new begun (Some one) file more is none own apart = (cc)
