-- The parts of a request, one after the other.
use Rattle.std.proofs.Common.{◌≡◌, ℕ, List, ◌++◌, append_assoc}

pub get_joined : (first path query version host end token last : List ℕ) →
    first ++ (path ++ (query ++ (version ++ (host ++ (end ++ (token ++ last)))))) ≡ first ++ path ++ query ++ version ++ host ++ end ++ token ++ last
get_joined first path query version host end token last = simp append_assoc

pub ask_joined : (first path here area version lines last : List ℕ) →
    first ++ (path ++ (here ++ (area ++ (version ++ (lines ++ last))))) ≡ first ++ path ++ here ++ area ++ version ++ lines ++ last
ask_joined first path here area version lines last = simp append_assoc

pub publish_joined : (first path mark query version lines type count last piece : List ℕ) →
    (first ++ (path ++ (mark ++ (query ++ (version ++ (lines ++ (type ++ (count ++ last)))))))) ++ piece
    ≡ first ++ path ++ mark ++ query ++ version ++ lines ++ type ++ count ++ last ++ piece
publish_joined first path mark query version lines type count last piece = simp append_assoc
