-- The script of a workload, a text in JSON without spaces.
use Rattle.std.specs.Prelude.{ℕ, ◌%◌, ◌==◌, List, [], ◌∷◌, ◌++◌, map, filter, codes}
use Rattle.std.specs.List.{range_with_len, join_with_byte}
use Rattle.std.specs.Fmt.{decimal}
use Rattle.bankgen.specs.declared.transfers.Transfer.{Transfer}
use Rattle.bankgen.specs.Transfers.{transfer}

-- the numbers from 0, so many
abbrev pub numbers : ℕ → List ℕ
numbers n = range_with_len 0 n

-- items in brackets, with commas, 44, between them
abbrev pub list_text : List (List ℕ) → List ℕ
list_text items = codes "[" ++ join_with_byte 44 items ++ codes "]"

-- a call of the method of this printed name, with these numbers
abbrev pub call_text : List ℕ → List ℕ → List ℕ
call_text method numbers = codes "{\"call\":\"" ++ method ++ codes "\",\"args\":" ++ list_text (map decimal numbers) ++ codes "}"

abbrev pub transfer_text : Transfer → List ℕ
transfer_text t = call_text (codes "Bank.transfer(III)I") (t.from ∷ t.to ∷ t.amount ∷ [])

abbrev pub total_text : List ℕ
total_text = call_text (codes "Bank.total()I") []

-- a phase, of the calls of each of its lanes
abbrev pub phase_text : List (List (List ℕ)) → List ℕ
phase_text lanes = codes "{\"lanes\":" ++ list_text (map list_text lanes) ++ codes "}"

-- calls are dealt to the lanes in turn: call k is of the lane k % lanes
abbrev pub dealt : (calls lanes lane : ℕ) → List ℕ
dealt calls lanes lane = filter (λ k. k % lanes == lane) (numbers calls)

-- the calls of a lane in phase 0
abbrev pub lane_calls : (seed accounts calls lanes lane : ℕ) → List (List ℕ)
lane_calls seed accounts calls lanes lane = map transfer_text (map (transfer seed accounts) (dealt calls lanes lane))

-- phase 0 has the transfers, and phase 1 one total on lane 0; turns, attempts and words of a region are left out, so they have their defaults
abbrev pub phase_texts : (seed accounts calls lanes : ℕ) → List (List ℕ)
phase_texts seed accounts calls lanes =
    phase_text (map (lane_calls seed accounts calls lanes) (numbers lanes))
    ∷ phase_text ((total_text ∷ []) ∷ [])
    ∷ []

abbrev pub script_text : (seed accounts calls lanes : ℕ) → List ℕ
script_text seed accounts calls lanes = codes "{\"form\":1,\"lanes\":" ++ decimal lanes ++ codes ",\"phases\":" ++ list_text (phase_texts seed accounts calls lanes) ++ codes "}"
