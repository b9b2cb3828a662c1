-- How a refusal reads.
use Rattle.std.specs.Prelude.{ℕ, List, ◌++◌, codes, decimal}
use Rattle.refusal.specs.declared.Refusal.{Refusal}
use Rattle.refusal.specs.declared.Layer.{Layer}
use Rattle.refusal.specs.declared.Layer.TheVariants.{File, Plan, Engine, Report}

-- the word for a layer
abbrev pub layer_word : Layer → List ℕ
layer_word File = codes "file"
layer_word Plan = codes "plan"
layer_word Engine = codes "engine"
layer_word Report = codes "report"

-- a refusal: its number, its layer and its place
abbrev pub refusal_text : Refusal → List ℕ
refusal_text r = codes "refused " ++ (decimal r.number ++ (codes " " ++ (layer_word r.layer ++ (codes " " ++ decimal r.place))))
