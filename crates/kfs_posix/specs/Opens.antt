-- The open files, as a session keeps them.
use Rattle.std.specs.Prelude.{ℕ, ◌-◌, ◌==◌, ◌&&◌, not, Bool, List, [], filter, map, Option, refl, if◌then◌else◌, Some, None}
use Rattle.std.specs.Coded.{Coded, code_by, coded×, coded_ℕ, coded_bool, coded_list}
use Rattle.std.specs.Ordering.{nat_cmp}
use Rattle.std.specs.List.{list_any}
use Rattle.std.specs.Option.{option_map, option_and_then}
use Rattle.std.specs.FinMap.{find, put}
use Rattle.slab.specs.Slab.{Slab, entries_from, slab_len}
use Rattle.kfs_model.specs.declared.Description.{Description}
use Rattle.kfs_model.specs.Desk.{Desk}
use Rattle.kfs_objects.specs.Keys.{be64}
use Rattle.kfs_posix.specs.declared.open_files.OpenFile.{OpenFile}

-- the descriptors with the numbers of their descriptions, and these by their numbers
pub record Opens : Type 0 where
  pub descriptors : List (ℕ × ℕ)
  pub files : List (ℕ × OpenFile)

abbrev pub no_files : Opens
no_files = record { descriptors = []; files = [] }

-- the same without what is known of the nodes
abbrev pub desk_of : Opens → Desk
desk_of o = record { descriptors = o.descriptors; descriptions = map (λ e. (e.0, e.1.it)) o.files }

-- with how many more descriptions fit
pub record FilesState : Type 0 where
  pub opens : Opens
  pub spare : ℕ

abbrev pub state_of_files : List (Option ℕ) → Slab OpenFile → FilesState
state_of_files descriptors files = record {
  opens = record { descriptors = entries_from 0 descriptors; files = entries_from 0 files.slots };
  spare = files.capacity - slab_len files;
}

-- the number of a descriptor's description, and that
abbrev pub open_at : Opens → ℕ → Option (ℕ × OpenFile)
open_at o fd = option_and_then (λ d. option_map (λ file. (d, file)) (find nat_cmp d o.files)) (find nat_cmp fd o.descriptors)

-- a descriptor has a description
abbrev pub with_descriptor : Opens → ℕ → ℕ → Opens
with_descriptor o fd d = record { descriptors = put nat_cmp fd d o.descriptors; files = o.files }

-- a description under its number, in the place of an older one
abbrev pub with_file : Opens → ℕ → OpenFile → Opens
with_file o d file = record { descriptors = o.descriptors; files = put nat_cmp d file o.files }

-- a descriptor has a new description
abbrev pub opened_as : Opens → ℕ → ℕ → OpenFile → Opens
opened_as o fd d file = record { descriptors = put nat_cmp fd d o.descriptors; files = put nat_cmp d file o.files }

-- a descriptor less
abbrev pub without : List (ℕ × ℕ) → ℕ → List (ℕ × ℕ)
without descriptors fd = filter (λ e. not (e.0 == fd)) descriptors

-- whether a descriptor has the description
abbrev pub is_held : List (ℕ × ℕ) → ℕ → Bool
is_held descriptors d = list_any (λ e. e.1 == d) descriptors

-- a descriptor less, and its description d where no other descriptor has that
abbrev pub closed : Opens → ℕ → ℕ → Opens
closed o fd d = record {
  descriptors = without o.descriptors fd;
  files = if is_held (without o.descriptors fd) d then o.files else filter (λ e. not (e.0 == d)) o.files;
}

-- the open nodes, each in 8 bytes
abbrev pub nodes_of : Opens → List (List ℕ)
nodes_of o = map (λ e. be64 e.1.it.node) o.files

-- the same open file, whose node has no name where it is this one
abbrev pub unnamed : OpenFile → ℕ → OpenFile
unnamed f n = record f { named = f.named && not (f.it.node == n) }

-- it is known of a node that no place names it
abbrev pub without_name : Opens → ℕ → Opens
without_name o n = record { descriptors = o.descriptors; files = map (λ e. (e.0, unnamed e.1 n)) o.files }

-- the open file of a node that has another length
abbrev pub relengthed_file : ℕ → ℕ → OpenFile → OpenFile
relengthed_file n size f = if f.it.node == n then record f { length = size } else f

-- a node has another length
abbrev pub relengthed : Opens → ℕ → ℕ → Opens
relengthed o n size = record { descriptors = o.descriptors; files = map (λ e. (e.0, relengthed_file n size e.1)) o.files }

-- the open file under a number at another offset
abbrev pub moved_at : Opens → ℕ → ℕ → Option OpenFile → Opens
moved_at o d p None = o
moved_at o d p (Some f) = with_file o d (record f { it = record { node = f.it.node; offset = p; read = f.it.read; write = f.it.write; append = f.it.append } })

abbrev pub moved_to : Opens → ℕ → ℕ → Opens
moved_to o d p = moved_at o d p (find nat_cmp d o.files)

-- ---- codes, by which proofs tell the states apart

abbrev pub description_code : Coded Description
description_code =
    code_by (ℕ × (ℕ × (Bool × (Bool × Bool)))) (coded× coded_ℕ (coded× coded_ℕ (coded× coded_bool (coded× coded_bool coded_bool))))
    (λ it. (it.node, (it.offset, (it.read, (it.write, it.append)))))
    (λ p. record { node = p.0; offset = p.1.0; read = p.1.1.0; write = p.1.1.1.0; append = p.1.1.1.1 })
    (λ _. refl)

abbrev pub file_code : Coded OpenFile
file_code =
    code_by (Description × (Bool × (ℕ × Bool))) (coded× description_code (coded× coded_bool (coded× coded_ℕ coded_bool)))
    (λ f. (f.it, (f.file, (f.length, f.named))))
    (λ p. record { it = p.0; file = p.1.0; length = p.1.1.0; named = p.1.1.1 })
    (λ _. refl)

abbrev pub opens_code : Coded Opens
opens_code =
    code_by (List (ℕ × ℕ) × List (ℕ × OpenFile)) (coded× (coded_list (coded× coded_ℕ coded_ℕ)) (coded_list (coded× coded_ℕ file_code)))
    (λ o. (o.descriptors, o.files)) (λ p. record { descriptors = p.0; files = p.1 }) (λ _. refl)

abbrev pub files_code : Coded FilesState
files_code = code_by (Opens × ℕ) (coded× opens_code coded_ℕ) (λ f. (f.opens, f.spare)) (λ p. record { opens = p.0; spare = p.1 }) (λ _. refl)
