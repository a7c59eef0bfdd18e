-- Jobs that would write over a file that they read, by the names of both.
use Rattle.std.specs.Prelude.{ℕ, ◌++◌, Bool, false, ◌||◌, List, [], ◌∷◌, Option, bytes_eq, codes, decimal}
use Rattle.std.specs.List.{list_any, range_with_len}
use Rattle.std.specs.Option.{option_map_or}
use Rattle.fpga_problem.specs.Files.{FileNames, PlacedNames}
use Rattle.router_words.specs.Job.{Blames, Decodes, Encodes, JobAsked, Narrows, Negotiates, Routes, Sweeps}
use Rattle.router_words.specs.Word.{Word}

-- the names of the files of a problem, and of a placed netlist
abbrev pub four_names : FileNames → List Word
four_names files =
    files.architecture ∷ files.netlist ∷ files.placement ∷ files.route ∷ []

abbrev pub three_names : PlacedNames → List Word
three_names files = files.architecture ∷ files.netlist ∷ files.placement ∷ []

-- this name is one of these
abbrev pub has_name : (names : List Word) → (sought : Word) → Bool
has_name names sought = list_any (λ name. bytes_eq name sought) names

-- the prefix with this ending behind it is one of them
abbrev pub is_named : (names : List Word) → (prefix ending : Word) → Bool
is_named names prefix ending = has_name names (prefix ++ ending)

-- so is the name of one of the files that a search may write
abbrev pub search_overwrites : (names : List Word) → (prefix : Word) → Bool
search_overwrites names prefix = is_named names prefix (codes ".route")
    || (is_named names prefix (codes ".cnf") || is_named names prefix (codes ".lrat"))

-- of those that a climb may write at a width
abbrev pub width_overwrites : (names : List Word) → (prefix : Word) → (width : ℕ) → Bool
width_overwrites names prefix width =
    is_named names prefix (codes ".w" ++ decimal width ++ codes ".cnf")
    || is_named names prefix (codes ".w" ++ decimal width ++ codes ".lrat")

-- of those that it may write up to the last width
abbrev pub climb_overwrites : (names : List Word) → (prefix : Word) → (last : ℕ) → Bool
climb_overwrites names prefix last = is_named names prefix (codes ".route")
    || list_any (width_overwrites names prefix) (range_with_len 1 last)

-- the route of a placement that is looked for has the name of one of its files, or of the route
-- that the search begins with
abbrev pub route_overwrites : (files : PlacedNames) → (from : Option Word) → (prefix : Word) → Bool
route_overwrites files from prefix = is_named (three_names files) prefix (codes ".route")
    || option_map_or (λ start. is_named (start ∷ []) prefix (codes ".route")) from false

-- so has a file that a search for the least width may write: the route, or the clauses and the log
-- that raise its bound
abbrev pub least_overwrites : (files : PlacedNames) → (from : Option Word) → (prefix : Word) → Bool
least_overwrites files from prefix = search_overwrites (three_names files) prefix
    || option_map_or (λ start. search_overwrites (start ∷ []) prefix) from false

-- the route that is made of a model has the name of a file of its problem, or of the model
abbrev pub model_overwrites : (files : FileNames) → (model prefix : Word) → Bool
model_overwrites files model prefix = is_named (four_names files) prefix (codes ".route")
    || is_named (model ∷ []) prefix (codes ".route")

-- a file that the job may write has the name of one that it reads
abbrev pub overwrites : JobAsked → Bool
overwrites (Routes job) = search_overwrites (four_names job.files) job.search.prefix
overwrites (Sweeps job) =
    climb_overwrites (four_names job.files) job.search.prefix job.search.width
overwrites (Encodes job) = is_named (four_names job.files) job.prefix (codes ".cnf")
overwrites (Decodes job) = model_overwrites job.files job.model job.prefix
overwrites (Blames job) = search_overwrites (four_names job.files) job.prefix
overwrites (Negotiates job) = route_overwrites job.files job.from job.prefix
overwrites (Narrows job) = least_overwrites job.files job.from job.prefix
overwrites job = false
