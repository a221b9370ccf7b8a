mod LeafWalk
