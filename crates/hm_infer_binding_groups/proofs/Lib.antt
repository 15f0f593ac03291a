mod OneNode
